-- What is possible without the noted atoms.
use Rattle.std.proofs.Common.{◌≡◌, ℕ, ◌+◌, ◌<◌, ◌==◌, vec_len, arith, Bool, true, false, not, ◌&&◌, ◌||◌, List, [], ◌∷◌, ◌++◌, length, take, get_or, Option, Some, None, IfSome, option_map, refl, sym, ap, ap₂, ◌∙◌, subst, ◌⊎◌, inl, inr, add-one}
use Rattle.std.specs.List.{sum_by}
use Rattle.std.specs.Option.{MatchOption, option_to_list}
use Rattle.std.proofs.lemmas.Bool.{eqb-true}
use Rattle.std.proofs.lemmas.List.Folds.{list_any-append}
use Rattle.std.proofs.Math.Seq.{take-suc}
use Rattle.std.proofs.lemmas.List.{map-append}
use Rattle.stp_cond.proofs.Interferes.{either}
use Rattle.stp_base.specs.declared.ids.AtomId.{AtomId}
use Rattle.stp_cond.specs.declared.cond.Cond.{Cond}
use Rattle.stp_cond.specs.declared.event.Event.{Event}
use Rattle.stp_cond.specs.Atoms.{has}
use Rattle.stp_cond.specs.Formulas.{Formula, Formulas, Always, Never, Atomic, Negation, Conjunction, Disjunction, NoMore, More, atoms_in, atoms_in_all, view}
use Rattle.stp_cond.specs.Truth.{state_of_row}
use Rattle.stp_cond.specs.Views.{atoms_of}
use Rattle.stp_cond.proofs.Lawful.{reading}
use Rattle.stp_cond.proofs.Rising.{has_first}
use Rattle.stp_cond.proofs.Shapes.{reads_are_of_shape}
use Rattle.stp_happen.proofs.Members.{and_left, and_right, and_both}
use Rattle.stp_task.specs.declared.action.GroundAction.{GroundAction}
use Rattle.stp_task.specs.Actions.{PlainAction, action_of, happening_of}
use Rattle.stp_task.specs.Certificates.{Pair, IsAllowed, IsWithin, all_may_be, may_be, possible, possible_end, some_may_be}
use Rattle.stp_relax.specs.declared.progress.Progress.{Progress}
use Rattle.stp_relax.specs.Reached.{pair_seen}
use Rattle.stp_relax.specs.Taken.{Allows, IsGrown, IsIdle, IsPopped, is_noted, off, pair_so_far}
use Rattle.stp_relax.specs.Watched.{is_read, is_read_in_the_end}
use Rattle.stp_relax.proofs.Growing.{allows_grow, within_itself}
use Rattle.stp_relax.proofs.Tests.{clash, each_atom, none_among, not_false, not_true, or_right, turned}

-- ---- a formula that does not have an atom

-- two pairs are alike at each atom of these
abbrev AreAlike : Pair → Pair → List ℕ → Type 0
AreAlike p q atoms = (a : ℕ) → has atoms a ≡ true → (p.may a ≡ q.may a) × (p.always a ≡ q.always a)

left_atom : (xs ys : List ℕ) (a : ℕ) → has xs a ≡ true → has (xs ++ ys) a ≡ true
left_atom xs ys a h = list_any-append (λ b. b == a) xs ys ∙ ap (λ b. b || has ys a) h

right_atom : (xs ys : List ℕ) (a : ℕ) → has ys a ≡ true → has (xs ++ ys) a ≡ true
right_atom xs ys a h = list_any-append (λ b. b == a) xs ys ∙ or_right (has xs a) (has ys a) h

mutual
  alike : (p q : Pair) (value : Bool) (f : Formula) → AreAlike p q (atoms_in f) → may_be p value f ≡ may_be q value f
  alike p q true Always h = refl
  alike p q false Always h = refl
  alike p q true Never h = refl
  alike p q false Never h = refl
  alike p q true (Atomic atom) h = (h atom (has_first atom [])).0
  alike p q false (Atomic atom) h = ap not (h atom (has_first atom [])).1
  alike p q true (Negation part) h = alike p q false part h
  alike p q false (Negation part) h = alike p q true part h
  alike p q true (Conjunction parts) h = all_alike p q true parts h
  alike p q false (Conjunction parts) h = some_alike p q false parts h
  alike p q true (Disjunction parts) h = some_alike p q true parts h
  alike p q false (Disjunction parts) h = all_alike p q false parts h

  all_alike : (p q : Pair) (value : Bool) (fs : Formulas) → AreAlike p q (atoms_in_all fs) → all_may_be p value fs ≡ all_may_be q value fs
  all_alike p q value NoMore h = refl
  all_alike p q value (More f fs) h =
      ap₂ (λ b c. b && c) (alike p q value f (λ a k. h a (left_atom (atoms_in f) (atoms_in_all fs) a k))) (all_alike p q value fs (λ a k. h a (right_atom (atoms_in f) (atoms_in_all fs) a k)))

  some_alike : (p q : Pair) (value : Bool) (fs : Formulas) → AreAlike p q (atoms_in_all fs) → some_may_be p value fs ≡ some_may_be q value fs
  some_alike p q value NoMore h = refl
  some_alike p q value (More f fs) h =
      ap₂ (λ b c. b || c) (alike p q value f (λ a k. h a (left_atom (atoms_in f) (atoms_in_all fs) a k))) (some_alike p q value fs (λ a k. h a (right_atom (atoms_in f) (atoms_in_all fs) a k)))

-- two pairs are alike at each atom but one
abbrev pub AreAlikeBut : Pair → Pair → ℕ → Type 0
AreAlikeBut p q atom = (a : ℕ) → (atom == a) ≡ false → (p.may a ≡ q.may a) × (p.always a ≡ q.always a)

-- an atom that a formula has is not one that it does not have
other_atom : (atoms : List ℕ) (atom a : ℕ) → has atoms atom ≡ false → has atoms a ≡ true → (atom == a) ≡ false
other_atom atoms atom a h k = not_true (atom == a) (λ e. let same : atom ≡ a = eqb-true atom a e in clash (has atoms atom) (subst (λ b. has atoms b ≡ true) (sym same) k) h)

without_atom : (p q : Pair) (atom : ℕ) (f : Formula) → AreAlikeBut p q atom → has (atoms_in f) atom ≡ false → possible p f ≡ possible q f
without_atom p q atom f h k = alike p q true f (λ a m. h a (other_atom (atoms_in f) atom a k m))

-- an event reads the atoms of its condition
read_atom : (e : Event) (a : ℕ) → has (atoms_in (view e.cond.now)) a ≡ true → has (atoms_of e.reads.now) a ≡ true
read_atom e a h = each_atom (has (atoms_of e.reads.now)) (atoms_in (view e.cond.now)) (sym (reads_are_of_shape (has (atoms_of e.reads.now)) e.cond.now) ∙ reading e) a h

not_read : (e : Event) (a : ℕ) → has (atoms_of e.reads.now) a ≡ false → has (atoms_in (view e.cond.now)) a ≡ false
not_read e a h = not_true (has (atoms_in (view e.cond.now)) a) (λ k. clash (has (atoms_of e.reads.now) a) (read_atom e a k) h)

or_false : (b c : Bool) → (b || c) ≡ false → (b ≡ false) × (c ≡ false)
or_false true c h = absurd (clash true refl h)
or_false false c h = (refl, h)

-- ---- an action that does not read an atom

end_unread : (p q now : Pair) (atom : ℕ) → AreAlikeBut p q atom → (action : PlainAction) (over : Cond) (finish : Option Event) → view over ≡ action.over → possible p action.start.cond ≡ possible q action.start.cond →
    is_read_in_the_end (view over) (option_map happening_of finish) atom ≡ false → IfSome (option_map happening_of finish) (λ e. possible_end p action e ≡ true → IsAllowed now e) →
    IfSome (option_map happening_of finish) (λ e. possible_end q action e ≡ true → IsAllowed now e)
end_unread p q now atom h action over None o s u k = tt
end_unread p q now atom h action over (Some e) o s u k =
    let parts = or_false (has (atoms_of e.reads.now) atom) (has (atoms_in (view over)) atom) u in
    let inside : possible p action.over ≡ possible q action.over = subst (λ f. possible p f ≡ possible q f) o (without_atom p q atom (view over) h parts.1) in
    let last : possible p (view e.cond.now) ≡ possible q (view e.cond.now) = without_atom p q atom (view e.cond.now) h (not_read e atom parts.0) in
    λ m. k (ap₂ (λ b c. b && c) s (ap₂ (λ b c. b && c) inside last) ∙ m)

unread : (p q now : Pair) (atom : ℕ) (x : GroundAction) → AreAlikeBut p q atom → is_read (action_of x) atom ≡ false → Allows p now (action_of x) → Allows q now (action_of x)
unread p q now atom x h u k =
    let parts = or_false (has (atoms_of x.start.reads.now) atom) (is_read_in_the_end (view x.over.now) (option_map happening_of x.finish) atom) u in
    let start : possible p (view x.start.cond.now) ≡ possible q (view x.start.cond.now) = without_atom p q atom (view x.start.cond.now) h (not_read x.start atom parts.0) in
    record {
      start = λ m. k.start (start ∙ m);
      finish = end_unread p q now atom h (action_of x) x.over.now x.finish refl start parts.1 k.finish;
    }

-- ---- what is noted

noted_or_true : (b c d : Bool) → (b ≡ false → c ≡ true → d ≡ true) → (b ≡ false → c ≡ true) → (b || d) ≡ true
noted_or_true true c d h k = refl
noted_or_true false c d h k = h refl (k refl)

-- what is possible without the noted atoms was possible before they were noted
pub seen_before : (q r : Progress) → IsGrown q r → IsWithin (pair_seen r) (pair_so_far q)
seen_before q r g = record {
  may = λ a h. sym (g.unnoted a (not_false (is_noted r a) (and_left (not (is_noted r a)) (state_of_row r.may a) h))).may ∙ and_right (not (is_noted r a)) (state_of_row r.may a) h;
  always = λ a h. noted_or_true (is_noted r a) (state_of_row q.always a) (state_of_row r.always a) (λ n m. (g.unnoted a n).always ∙ m) (λ n. h);
}

-- and was so without the atoms that were noted then
pub seen_still : (q r : Progress) → IsGrown q r → IsWithin (pair_seen r) (pair_seen q)
seen_still q r g = record {
  may = λ a h.
      let b = g.unnoted a (not_false (is_noted r a) (and_left (not (is_noted r a)) (state_of_row r.may a) h)) in
      and_both (not (is_noted q a)) (state_of_row q.may a) (turned (is_noted q a) b.unnoted) (sym b.may ∙ and_right (not (is_noted r a)) (state_of_row r.may a) h);
  always = λ a h.
      noted_or_true (is_noted r a) (state_of_row q.always a) (state_of_row r.always a) (λ n m. (g.unnoted a n).always ∙ m)
      (λ n. sym (ap (λ b. b || state_of_row q.always a) (g.unnoted a n).unnoted) ∙ h);
}

-- where nothing is noted all is seen
pub all_seen : (q : Progress) → ((a : ℕ) → is_noted q a ≡ false) → IsWithin (pair_so_far q) (pair_seen q)
all_seen q none = record {
  may = λ a h. and_both (not (is_noted q a)) (state_of_row q.may a) (turned (is_noted q a) (none a)) h;
  always = λ a h. sym (ap (λ b. b || state_of_row q.always a) (none a)) ∙ h;
}

-- ---- an atom is no longer noted

popped_alike : (atom : ℕ) (q r : Progress) → IsPopped q r atom → AreAlikeBut (pair_seen q) (pair_seen r) atom
popped_alike atom q r h = λ a k.
    let n = h.noted a k in
    (ap₂ (λ b c. not b && c) (sym n) (ap (λ row. state_of_row row a) (sym h.may)), ap₂ (λ b c. b || c) (sym n) (ap (λ row. state_of_row row a) (sym h.always)))

pub same_rows : (q r : Progress) → r.may ≡ q.may → r.always ≡ q.always → IsWithin (pair_so_far q) (pair_so_far r)
same_rows q r m n = record { may = λ a k. ap (λ row. state_of_row row a) m ∙ k; always = λ a k. ap (λ row. state_of_row row a) (sym n) ∙ k }

cases_of : (b : Bool) → (b ≡ true) ⊎ (b ≡ false)
cases_of true = inl refl
cases_of false = inr refl

-- an action was looked at again if it reads the atom
pub looked_at : (atom : ℕ) (x : GroundAction) (q r s : Progress) → IsPopped q r atom → IsGrown r s → (is_read (action_of x) atom ≡ true → Allows (pair_so_far r) (pair_so_far s) (action_of x)) →
    Allows (pair_seen q) (pair_so_far q) (action_of x) → Allows (pair_seen s) (pair_so_far s) (action_of x)
looked_at atom x q r s h g again k =
    elim (cases_of (is_read (action_of x) atom)) [
      | inl m ↦ allows_grow (pair_so_far r) (pair_seen s) (pair_so_far s) (pair_so_far s) (seen_before r s g) (within_itself (pair_so_far s)) (action_of x) (again m)
      | inr m ↦
          allows_grow (pair_seen r) (pair_seen s) (pair_so_far r) (pair_so_far s) (seen_still r s g) g.within (action_of x)
          (allows_grow (pair_seen r) (pair_seen r) (pair_so_far q) (pair_so_far r) (within_itself (pair_seen r)) (same_rows q r h.may h.always) (action_of x)
          (unread (pair_seen q) (pair_seen r) (pair_so_far q) atom x (popped_alike atom q r h) m k))
    ]

-- ---- places

take_next : (places : List ℕ) (i : ℕ) → i < length places → take (i + 1) places ≡ take i places ++ get_or places i 0 ∷ []
take_next places i l = ap (λ n. take n places) (add-one i) ∙ take-suc places i 0 l

-- a number among so many places and the next is among those before, or the next
pub one_more_place : (places : List ℕ) (i j : ℕ) → i < length places → has (take (i + 1) places) j ≡ true → (has (take i places) j ≡ true) ⊎ (get_or places i 0 ≡ j)
one_more_place places i j l h =
    elim (either (has (take i places) j) (has (get_or places i 0 ∷ []) j) (sym (list_any-append (λ b. b == j) (take i places) (get_or places i 0 ∷ [])) ∙ (ap (λ xs. has xs j) (sym (take_next places i l)) ∙ h))) [
      | inl m ↦ inl m
      | inr m ↦ elim (either (get_or places i 0 == j) false m) [ inl e ↦ inr (eqb-true (get_or places i 0) j e) | inr e ↦ absurd (clash false e refl) ]
    ]

or_nothing : (b c : Bool) → c ≡ false → (b || (c || false)) ≡ b
or_nothing true c h = refl
or_nothing false c h = ap (λ d. d || false) h

-- what a list that is shorter by its last has
pub noted_but : (xs ys : List AtomId) (x : AtomId) → xs ≡ ys ++ x ∷ [] → (a : ℕ) → (x.0 == a) ≡ false → has (atoms_of ys) a ≡ has (atoms_of xs) a
noted_but xs ys x e a h =
    sym (ap (λ zs. has (atoms_of zs) a) e ∙ (ap (λ zs. has zs a) (map-append (λ (b : AtomId). b.0) ys (x ∷ [])) ∙ (list_any-append (λ b. b == a) (atoms_of ys) (x.0 ∷ []) ∙ or_nothing (has (atoms_of ys) a) (x.0 == a) h)))

-- ---- the next atom

left_alike : (q r : Progress) → r.may ≡ q.may → r.always ≡ q.always → sum_by (off true) r.may + sum_by (off false) r.always ≡ sum_by (off true) q.may + sum_by (off false) q.always
left_alike q r m a = ap₂ (λ x y. sum_by (off true) x + sum_by (off false) y) m a

pub popped_or_idle : (q r : Progress) (result : Option AtomId) → r.may ≡ q.may → r.always ≡ q.always → q.noted.items ≡ r.noted.items ++ option_to_list result →
    MatchOption result ((vec_len q.noted ≡ 0) × (vec_len r.noted ≡ 0)) (λ x. vec_len r.noted + 1 ≡ vec_len q.noted) → MatchOption result (IsIdle q r) (λ atom. IsPopped q r atom.0)
popped_or_idle q r None m a e k = let l = k.0 in record { may = m; always = a; unnoted = none_among q.noted.items (omega (arith, l)) }
popped_or_idle q r (Some atom) m a e k = record {
  may = m;
  always = a;
  noted = noted_but q.noted.items r.noted.items atom e;
  less = let l = left_alike q r m a in let n = ap length e in omega (arith, l, k);
}
