-- Places of members in a list by a number of theirs, members of ranges, and rows that are put together.
use Rattle.std.proofs.Common.{◌≡◌, ℕ, zero, suc, ◌+◌, ◌<◌, ◌≤◌, ◌==◌, Bool, true, false, not, cond, List, [], ◌∷◌, ◌++◌, map, length, Contains, ◌⊎◌, inl, inr, refl, sym, ◌∙◌, subst, ap, arith, true≢false, eqb-true, eq-eqb}
use Rattle.std.specs.List.{position_or_len, range_with_len}
use Rattle.std.proofs.lemmas.Bool.{cases_eq}
use Rattle.stp_cond.specs.Truth.{state_of_row}
use Rattle.stp_happen.proofs.Members.{here, there, member_cases, member_nil}

module _ {X : Type 0} (f : X → ℕ) where
  abbrev place : ℕ → List X → ℕ
  place k xs = position_or_len (λ x. f x == k) xs

  -- a member has a place in the list
  pub place_below : (xs : List X) (x : X) → Contains xs x → position_or_len (λ y. f y == f x) xs < length xs
  place_below [] x i = absurd (member_nil x i)
  place_below (z ∷ zs) x i = by_test (f z == f x) refl (member_cases z zs x i) (place_below zs x)
    where
      by_test : (t : Bool) → (f z == f x) ≡ t → (z ≡ x) ⊎ Contains zs x → (Contains zs x → place (f x) zs < length zs) → cond (not (f z == f x)) (1 + place (f x) zs) 0 < length (z ∷ zs)
      by_test true e m more = subst (λ t. cond (not t) (1 + place (f x) zs) 0 < length (z ∷ zs)) (sym e) (omega arith)
      by_test false e (inl s) more = absurd (true≢false (sym (eq-eqb (f z) (f x) (ap f s)) ∙ e))
      by_test false e (inr j) more = subst (λ t. cond (not t) (1 + place (f x) zs) 0 < length (z ∷ zs)) (sym e) (omega (arith, more j))

  -- members at one place have one number
  pub place_once : (xs : List X) (x y : X) → Contains xs x → Contains xs y → position_or_len (λ z. f z == f x) xs ≡ position_or_len (λ z. f z == f y) xs → f x ≡ f y
  place_once [] x y i j e = absurd (member_nil x i)
  place_once (z ∷ zs) x y i j e = by_tests (f z == f x) (f z == f y) refl refl (member_cases z zs x i) (member_cases z zs y j) e (place_once zs x y)
    where
      later : (w : X) → (f z == f w) ≡ false → (z ≡ w) ⊎ Contains zs w → Contains zs w
      later w e (inl s) = absurd (true≢false (sym (eq-eqb (f z) (f w) (ap f s)) ∙ e))
      later w e (inr k) = k

      by_tests : (t u : Bool) → (f z == f x) ≡ t → (f z == f y) ≡ u → (z ≡ x) ⊎ Contains zs x → (z ≡ y) ⊎ Contains zs y →
          cond (not (f z == f x)) (1 + place (f x) zs) 0 ≡ cond (not (f z == f y)) (1 + place (f y) zs) 0 → (Contains zs x → Contains zs y → place (f x) zs ≡ place (f y) zs → f x ≡ f y) → f x ≡ f y
      by_tests true true c d m n e more = sym (eqb-true (f z) (f x) c) ∙ eqb-true (f z) (f y) d
      by_tests true false c d m n e more = let k : 0 ≡ 1 + place (f y) zs = sym (ap (λ t. cond (not t) (1 + place (f x) zs) 0) c) ∙ (e ∙ ap (λ t. cond (not t) (1 + place (f y) zs) 0) d) in absurd (omega (arith, k))
      by_tests false true c d m n e more = let k : 1 + place (f x) zs ≡ 0 = sym (ap (λ t. cond (not t) (1 + place (f x) zs) 0) c) ∙ (e ∙ ap (λ t. cond (not t) (1 + place (f y) zs) 0) d) in absurd (omega (arith, k))
      by_tests false false c d m n e more =
          let k : 1 + place (f x) zs ≡ 1 + place (f y) zs = sym (ap (λ t. cond (not t) (1 + place (f x) zs) 0) c) ∙ (e ∙ ap (λ t. cond (not t) (1 + place (f y) zs) 0) d) in
          more (later x c m) (later y d n) (omega (arith, k))

pub in_range : (a n x : ℕ) → a ≤ x → x < a + n → Contains (range_with_len a n) x
in_range a zero x l h = absurd (omega (arith, l, h))
in_range a (suc n) x l h = elim (cases_eq a x) [
  | inl e ↦ subst (λ y. Contains (a ∷ range_with_len (a + 1) n) y) e (here a (range_with_len (a + 1) n))
  | inr e ↦ there a (range_with_len (a + 1) n) x (in_range (a + 1) n x (not_first a x l e) (omega (arith, h)))
]
  where
    not_first : (a x : ℕ) → a ≤ x → (a ≡ x → ⊥) → a + 1 ≤ x
    not_first a x l e = grind arith

pub row_past : (xs ys : List Bool) (i : ℕ) → state_of_row (xs ++ ys) (length xs + i) ≡ state_of_row ys i
row_past [] ys i = let e : 0 + i ≡ i = omega arith in ap (state_of_row ys) e
row_past (x ∷ xs) ys i = let e : length (x ∷ xs) + i ≡ suc (length xs + i) = omega arith in ap (state_of_row (x ∷ (xs ++ ys))) e ∙ row_past xs ys i

pub all_false : {X : Type 0} (xs : List X) (i : ℕ) → state_of_row (map (λ x. false) xs) i ≡ false
all_false [] i = refl
all_false (x ∷ xs) zero = refl
all_false (x ∷ xs) (suc i) = all_false xs i
