-- The footprints on a formula: each opened one is of an opened end, and each opened end that writes something has one.
use Rattle.std.proofs.Common.{◌≡◌, ℕ, Bool, true, false, not, ◌&&◌, ◌||◌, ◌==◌, cond, List, [], ◌∷◌, ◌++◌, map, filter, length, Contains, inl, inr, refl, ap, ap₂, sym, ◌∙◌, arith, true≢false}
use Rattle.std.specs.List.{fold, list_any}
use Rattle.std.specs.Cmp.Lexicographic.{pointwise, same_text}
use Rattle.std.proofs.lemmas.Bool.{eq-eqb, ne_eqb}
use Rattle.std.proofs.lemmas.List.Folds.{list_any-append}
use Rattle.stp_cond.specs.Atoms.{has}
use Rattle.stp_cond.specs.Formulas.{Formula, atoms_in}
use Rattle.stp_expand.specs.Footprints.{PlainFootprint, writes, writes_nothing, is_same, part_of, with_footprint, with_part, footprints_on}
use Rattle.stp_expand.specs.Laws.{is_opened}
use Rattle.stp_expand.proofs.Members.{passing_member, any_passes, any_filter, and_left, and_right, and_both, or_cases}

-- ---- the same footprint

same_list : (xs : List ℕ) → pointwise ◌==◌ xs xs ≡ true
same_list [] = refl
same_list (x ∷ xs) = and_both (x == x) (pointwise ◌==◌ xs xs) (eq-eqb x x refl) (same_list xs)

pub same_itself : (p : PlainFootprint) → is_same p p ≡ true
same_itself p = and_both (pointwise ◌==◌ p.adds p.adds) (pointwise ◌==◌ p.dels p.dels) (same_list p.adds) (same_list p.dels)

pub same_adds : (p q : PlainFootprint) → is_same p q ≡ true → p.adds ≡ q.adds
same_adds p q e = same_text p.adds q.adds (sym (and_left (pointwise ◌==◌ p.adds q.adds) (pointwise ◌==◌ p.dels q.dels) e))

pub same_dels : (p q : PlainFootprint) → is_same p q ≡ true → p.dels ≡ q.dels
same_dels p q e = same_text p.dels q.dels (sym (and_right (pointwise ◌==◌ p.adds q.adds) (pointwise ◌==◌ p.dels q.dels) e))

pub same_writes : (p q : PlainFootprint) (a : ℕ) → is_same p q ≡ true → writes p a ≡ writes q a
same_writes p q a e = ap₂ (λ xs ys. has xs a || has ys a) (same_adds p q e) (same_dels p q e)

-- ---- what a test that looks at what is written finds among opened footprints

abbrev seen : (List ℕ → List ℕ → Bool) → (ℕ → Bool) → PlainFootprint → Bool
seen r state p = r p.adds p.dels && is_opened state p

turned_or : (b c : Bool) → (b || c) ≡ (c || b)
turned_or true true = refl
turned_or true false = refl
turned_or false true = refl
turned_or false false = refl

moved_or : (b c d : Bool) → (b || (c || d)) ≡ ((b || c) || d)
moved_or true c d = refl
moved_or false c d = refl

joined_or : (s o p l : Bool) → ((s && (o || p)) || l) ≡ (((s && o) || l) || (s && p))
joined_or true true p l = refl
joined_or true false p l = turned_or p l
joined_or false o p l = turned_or false l

any_with : (r : List ℕ → List ℕ → Bool) (state : ℕ → Bool) (p : PlainFootprint) (qs : List PlainFootprint) → list_any (seen r state) (with_footprint p qs) ≡ (list_any (seen r state) qs || seen r state p)
any_with r state p [] = turned_or (seen r state p) false
any_with r state p (q ∷ qs) = by_test (any_with r state p qs) (is_same p q) refl
  where
    by_test : list_any (seen r state) (with_footprint p qs) ≡ (list_any (seen r state) qs || seen r state p) → (b : Bool) → is_same p q ≡ b → list_any (seen r state) (cond b (record q { opened = q.opened ++ p.opened } ∷ qs) (q ∷ with_footprint p qs)) ≡ (list_any (seen r state) (q ∷ qs) || seen r state p)
    by_test more true e =
        ap (λ o. (r q.adds q.dels && o) || list_any (seen r state) qs) (list_any-append state q.opened p.opened)
        ∙ (joined_or (r q.adds q.dels) (is_opened state q) (is_opened state p) (list_any (seen r state) qs)
        ∙ ap (λ b. list_any (seen r state) (q ∷ qs) || (b && is_opened state p)) (sym (ap₂ r (same_adds p q e) (same_dels p q e))))
    by_test more false e = ap (λ b. seen r state q || b) more ∙ moved_or (seen r state q) (list_any (seen r state) qs) (seen r state p)

or_nothing : (b : Bool) → b ≡ (b || false)
or_nothing true = refl
or_nothing false = refl

any_part : (r : List ℕ → List ℕ → Bool) (state : ℕ → Bool) (p : PlainFootprint) (qs : List PlainFootprint) → list_any (seen r state) (with_part qs p) ≡ (list_any (seen r state) qs || (not (writes_nothing p) && seen r state p))
any_part r state p qs = by_test (writes_nothing p)
  where
    by_test : (b : Bool) → list_any (seen r state) (cond b qs (with_footprint p qs)) ≡ (list_any (seen r state) qs || (not b && seen r state p))
    by_test true = or_nothing (list_any (seen r state) qs)
    by_test false = any_with r state p qs

any_fold : (r : List ℕ → List ℕ → Bool) (state : ℕ → Bool) (atoms : List ℕ) (qs ends : List PlainFootprint) →
    list_any (seen r state) (fold with_part qs (map (part_of atoms) ends)) ≡ (list_any (seen r state) qs || list_any (λ p. not (writes_nothing (part_of atoms p)) && seen r state (part_of atoms p)) ends)
any_fold r state atoms qs [] = or_nothing (list_any (seen r state) qs)
any_fold r state atoms qs (p ∷ ps) =
    any_fold r state atoms (with_part qs (part_of atoms p)) ps
    ∙ (ap (λ b. b || list_any (λ p. not (writes_nothing (part_of atoms p)) && seen r state (part_of atoms p)) ps) (any_part r state (part_of atoms p) qs)
    ∙ sym (moved_or (list_any (seen r state) qs) (not (writes_nothing (part_of atoms p)) && seen r state (part_of atoms p)) (list_any (λ p. not (writes_nothing (part_of atoms p)) && seen r state (part_of atoms p)) ps)))

-- ---- footprints and ends

part_on : Formula → PlainFootprint → PlainFootprint
part_on f p = part_of (atoms_in f) p

-- an opened footprint is of an opened end
pub end_of : (state : ℕ → Bool) (f : Formula) (ends : List PlainFootprint) (q : PlainFootprint) → Contains (footprints_on f ends) q → is_opened state q ≡ true →
    (p : PlainFootprint) × Contains ends p × (is_same (part_of (atoms_in f) p) q ≡ true) × (is_opened state p ≡ true)
end_of state f ends q i o =
    let r : List ℕ → List ℕ → Bool = λ adds dels. pointwise ◌==◌ adds q.adds && pointwise ◌==◌ dels q.dels in
    let found = any_passes (seen r state) (footprints_on f ends) q i (and_both (r q.adds q.dels) (is_opened state q) (same_itself q) o) in
    let m = passing_member (λ p. not (writes_nothing (part_of (atoms_in f) p)) && seen r state (part_of (atoms_in f) p)) ends (sym (any_fold r state (atoms_in f) [] ends) ∙ found) in
    let h = and_right (not (writes_nothing (part_of (atoms_in f) m.0))) (seen r state (part_of (atoms_in f) m.0)) m.2 in
    (m.0, m.1, and_left (is_same (part_of (atoms_in f) m.0) q) (is_opened state m.0) h, and_right (is_same (part_of (atoms_in f) m.0) q) (is_opened state m.0) h)

has_some : (xs : List ℕ) (a : ℕ) → has xs a ≡ true → (length xs == 0) ≡ false
has_some [] a h = absurd (true≢false (sym h))
has_some (x ∷ xs) a h = ne_eqb (length (x ∷ xs)) 0 (λ e. omega (arith, e))

writes_something : (p : PlainFootprint) (a : ℕ) → writes p a ≡ true → not (writes_nothing p) ≡ true
writes_something p a h = elim (or_cases (has p.adds a) (has p.dels a) h) [
  | inl i ↦ ap (λ b. not (b && (length p.dels == 0))) (has_some p.adds a i)
  | inr i ↦ ap (λ b. not ((length p.adds == 0) && b)) (has_some p.dels a i) ∙ neither (length p.adds == 0)
]
  where
    neither : (b : Bool) → not (b && false) ≡ true
    neither true = refl
    neither false = refl

-- an opened end that writes an atom of the formula has an opened footprint
pub footprint_of_end : (state : ℕ → Bool) (f : Formula) (ends : List PlainFootprint) (p : PlainFootprint) (a : ℕ) → Contains ends p → writes (part_of (atoms_in f) p) a ≡ true → is_opened state p ≡ true →
    (q : PlainFootprint) × Contains (footprints_on f ends) q × (is_same (part_of (atoms_in f) p) q ≡ true) × (is_opened state q ≡ true)
footprint_of_end state f ends p a i w o =
    let part = part_of (atoms_in f) p in
    let r : List ℕ → List ℕ → Bool = λ adds dels. pointwise ◌==◌ part.adds adds && pointwise ◌==◌ part.dels dels in
    let found = any_passes (λ p. not (writes_nothing (part_of (atoms_in f) p)) && seen r state (part_of (atoms_in f) p)) ends p i
    (and_both (not (writes_nothing part)) (seen r state part) (writes_something part a w) (and_both (r part.adds part.dels) (is_opened state part) (same_itself part) o)) in
    let m = passing_member (seen r state) (footprints_on f ends) (any_fold r state (atoms_in f) [] ends ∙ found) in
    (m.0, m.1, and_left (is_same part m.0) (is_opened state m.0) m.2, and_right (is_same part m.0) (is_opened state m.0) m.2)

-- ---- what the part of a footprint writes

has_filter : (p : ℕ → Bool) (xs : List ℕ) (a : ℕ) → has (filter p xs) a ≡ (p a && has xs a)
has_filter p xs a = any_filter p (λ b. b == a) xs ∙ at_atom p xs a
  where
    same_test : (p : ℕ → Bool) (x a : ℕ) (l : Bool) (b : Bool) → (x == a) ≡ b → ((p x && b) || (p a && l)) ≡ (p a && (b || l))
    same_test p x a l true e = at_equal (p x) (p a) l (ap p (eqb_path x a e))
      where
        eqb_path : (x a : ℕ) → (x == a) ≡ true → x ≡ a
        eqb_path x a e = grind arith

        at_equal : (b c l : Bool) → b ≡ c → ((b && true) || (c && l)) ≡ (c && true)
        at_equal true true l e = refl
        at_equal true false l e = e
        at_equal false true l e = cc
        at_equal false false l e = refl
    same_test p x a l false e = skipped (p x) (p a && l)
      where
        skipped : (b l : Bool) → ((b && false) || l) ≡ l
        skipped true l = refl
        skipped false l = refl

    at_atom : (p : ℕ → Bool) (xs : List ℕ) (a : ℕ) → list_any (λ x. p x && (x == a)) xs ≡ (p a && has xs a)
    at_atom p [] a = nothing (p a)
      where
        nothing : (b : Bool) → false ≡ (b && false)
        nothing true = refl
        nothing false = refl
    at_atom p (x ∷ xs) a = ap (λ b. (p x && (x == a)) || b) (at_atom p xs a) ∙ same_test p x a (has xs a) (x == a) refl

pub part_adds : (atoms : List ℕ) (p : PlainFootprint) (a : ℕ) → has (part_of atoms p).adds a ≡ (has atoms a && has p.adds a)
part_adds atoms p a = has_filter (has atoms) p.adds a

pub part_dels : (atoms : List ℕ) (p : PlainFootprint) (a : ℕ) → has (part_of atoms p).dels a ≡ (has atoms a && has p.dels a)
part_dels atoms p a = has_filter (has atoms) p.dels a

-- of the atoms it writes what the whole footprint writes
pub part_writes : (atoms : List ℕ) (p : PlainFootprint) (a : ℕ) → has atoms a ≡ true → writes (part_of atoms p) a ≡ writes p a
part_writes atoms p a h =
    ap₂ (λ b c. b || c) (part_adds atoms p a ∙ ap (λ b. b && has p.adds a) h) (part_dels atoms p a ∙ ap (λ b. b && has p.dels a) h)
