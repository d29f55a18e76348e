-- The lists of a conjunctive event, and their atoms' range.
use Rattle.std.proofs.Common.{◌≡◌, ℕ, ◌<◌, Bool, true, false, not, ◌==◌, nat_lt, List, [], ◌∷◌, get_or, refl, sym, ap, ◌∙◌, All}
use Rattle.std.specs.List.{list_all}
use Rattle.std.proofs.lemmas.Bool.{and_from, lt-ltb, ltb-true, or_right}
use Rattle.std.proofs.lemmas.List.Elements.{filter_agree}
use Rattle.std.proofs.lemmas.List.Recursion.{and_at, and_from_places}
use Rattle.stp_base.specs.declared.ids.AtomId.{AtomId}
use Rattle.stp_cond.specs.Atoms.{PlainEvent, has, have_common, set_of, without}
use Rattle.stp_cond.specs.Views.{atoms_of}
use Rattle.stp_cond.proofs.Among.{all_of_atoms}
use Rattle.stp_cond.proofs.Rising.{all_set, all_filter, has_set, has_first, set_twice, set_filter, without_apart}

pub without_sets : (xs ys : List ℕ) → without (set_of xs) (set_of ys) ≡ set_of (without xs ys)
without_sets xs ys =
    filter_agree (λ x. not (has (set_of ys) x)) (λ x. not (has ys x)) (λ x. ap not (has_set ys x)) (set_of xs)
    ∙ sym (set_filter (λ x. not (has ys x)) xs)

all_from : (p : ℕ → Bool) (xs : List ℕ) → ((a : ℕ) → has xs a ≡ true → p a ≡ true) → list_all p xs ≡ true
all_from p [] h = refl
all_from p (x ∷ xs) h = and_from (p x) (list_all p xs) (h x (has_first x xs)) (all_from p xs (λ a i. h a (or_right (x == a) (has xs a) i)))

pub all_in_set : (xs : List ℕ) → list_all (has (set_of xs)) xs ≡ true
all_in_set xs = all_from (has (set_of xs)) xs (λ a h. has_set xs a ∙ h)

-- ---- numbers below a bound

pub below_from_All : (n : ℕ) (xs : List AtomId) → All (λ a. a.0 < n) xs → list_all (λ a. nat_lt a n) (atoms_of xs) ≡ true
below_from_All n xs all =
    all_of_atoms (λ a. nat_lt a n) xs ∙ and_from_places (list_all (λ x. nat_lt x.0 n)) (λ x. nat_lt x.0 n) refl (λ _ _. refl) xs (record { 0 = 0 }) (λ k h. lt-ltb (get_or xs k (record { 0 = 0 })).0 n (all k (record { 0 = 0 }) h))

pub All_from_below : (n : ℕ) (xs : List AtomId) → list_all (λ a. nat_lt a n) (atoms_of xs) ≡ true → All (λ a. a.0 < n) xs
All_from_below n xs below = λ k d h. ltb-true (get_or xs k d).0 n (and_at (list_all (λ x. nat_lt x.0 n)) (λ x. nat_lt x.0 n) refl (λ _ _. refl) xs k d h (sym (all_of_atoms (λ a. nat_lt a n) xs) ∙ below))

-- the set of some atoms has no greater atom than they
pub set_in_range : (n : ℕ) (xs ys : List AtomId) → atoms_of ys ≡ set_of (atoms_of xs) → All (λ a. a.0 < n) xs → All (λ a. a.0 < n) ys
set_in_range n xs ys e all = All_from_below n ys (ap (list_all (λ a. nat_lt a n)) e ∙ (all_set (λ a. nat_lt a n) (atoms_of xs) ∙ below_from_All n xs all))

all_without : (p : ℕ → Bool) (xs ys : List ℕ) → list_all p xs ≡ true → list_all p (without xs ys) ≡ true
all_without p xs ys h = all_filter (λ x. not (has ys x)) p xs h

pub without_in_range : (n : ℕ) (xs ys : List AtomId) (other : List ℕ) → atoms_of ys ≡ without (atoms_of xs) other → All (λ a. a.0 < n) xs → All (λ a. a.0 < n) ys
without_in_range n xs ys other e all = All_from_below n ys (ap (list_all (λ a. nat_lt a n)) e ∙ all_without (λ a. nat_lt a n) (atoms_of xs) other (below_from_All n xs all))

-- ---- the lists of the event

pub sets_are_sets : (xs : List ℕ) (ys : List AtomId) → atoms_of ys ≡ set_of xs → set_of (atoms_of ys) ≡ atoms_of ys
sets_are_sets xs ys e = ap set_of e ∙ (set_twice xs ∙ sym e)

pub deleted_is : (adds dels : List ℕ) (added all_deleted deleted : List AtomId) → atoms_of added ≡ set_of adds → atoms_of all_deleted ≡ set_of dels → atoms_of deleted ≡ without (atoms_of all_deleted) (atoms_of added) → atoms_of deleted ≡ set_of (without dels adds)
deleted_is adds dels added all_deleted deleted a d e =
    e ∙ (ap (λ l. without l (atoms_of added)) d ∙ (ap (without (set_of dels)) a ∙ without_sets dels adds))

pub lists_apart : (adds dels : List ℕ) (added deleted : List AtomId) → atoms_of added ≡ set_of adds → atoms_of deleted ≡ set_of (without dels adds) → have_common (atoms_of added) (atoms_of deleted) ≡ false
lists_apart adds dels added deleted a d = ap (λ l. have_common l (atoms_of deleted)) a ∙ (ap (have_common (set_of adds)) d ∙ without_apart adds dels)

pub same_event : (cond cond' : (ℕ → Bool) → Bool) (reads reads' adds adds' dels dels' : List ℕ) → cond ≡ cond' → reads ≡ reads' → adds ≡ adds' → dels ≡ dels' →
    let e : PlainEvent = record { cond = cond; reads = reads; adds = adds; dels = dels } in
    let e' : PlainEvent = record { cond = cond'; reads = reads'; adds = adds'; dels = dels' } in e ≡ e'
same_event cond cond' reads reads' adds adds' dels dels' c r a d = cc
