-- Sets of items by the bits of numbers: each part of a list that a test picks has a number.
use Rattle.std.proofs.Common.{◌≡◌, ℕ, zero, suc, ◌+◌, ◌-◌, ◌*◌, ◌<◌, ◌≤◌, ◌/◌, ◌%◌, ◌^◌, Bool, true, false, ◌==◌, cond, List, [], ◌∷◌, map, filter, length, Contains, inl, inr, refl, ap, sym, ◌∙◌, subst, arith}
use Rattle.std.specs.List.{list_all, range_with_len}
use Rattle.std.proofs.lemmas.Bool.{cases_lt}
use Rattle.std.proofs.Math.Nat.{pow-succ'}
use Rattle.stp_expand.specs.Footprints.{PlainFootprint}
use Rattle.stp_expand.specs.Expanded.{picked, is_consistent, used_sets}
use Rattle.stp_expand.proofs.Members.{here, there, member_cases, member_nil, and_left, and_right, and_both}

-- the number of what a test picks
abbrev pub number_of : {X : Type 0} → (X → Bool) → List X → ℕ
number_of test [] = 0
number_of test (x ∷ xs) = cond (test x) 1 0 + 2 * number_of test xs

picked_by : {X : Type 0} (x : X) (xs : List X) (b : Bool) (n : ℕ) → picked (x ∷ xs) (cond b 1 0 + 2 * n) ≡ cond b (x ∷ picked xs n) (picked xs n)
picked_by x xs true n =
    let m : (1 + 2 * n) % 2 ≡ 1 = omega arith in
    let d : (1 + 2 * n) / 2 ≡ n = omega arith in
    ap (λ k. cond (k == 1) (x ∷ picked xs ((1 + 2 * n) / 2)) (picked xs ((1 + 2 * n) / 2))) m ∙ ap (λ k. x ∷ picked xs k) d
picked_by x xs false n =
    let m : (0 + 2 * n) % 2 ≡ 0 = omega arith in
    let d : (0 + 2 * n) / 2 ≡ n = omega arith in
    ap (λ k. cond (k == 1) (x ∷ picked xs ((0 + 2 * n) / 2)) (picked xs ((0 + 2 * n) / 2))) m ∙ ap (λ k. picked xs k) d

pub picked_number : {X : Type 0} (test : X → Bool) (xs : List X) → picked xs (number_of test xs) ≡ filter test xs
picked_number test [] = refl
picked_number test (x ∷ xs) = picked_by x xs (test x) (number_of test xs) ∙ ap (λ l. cond (test x) (x ∷ l) l) (picked_number test xs)

bit_below : (b : Bool) (n m : ℕ) → n < m → cond b 1 0 + 2 * n < 2 * m
bit_below true n m h = omega arith
bit_below false n m h = omega arith

pub number_below : {X : Type 0} (test : X → Bool) (xs : List X) → number_of test xs < 2 ^ length xs
number_below test [] = one_more
  where
    one_more : 0 < 1
    one_more = omega arith
number_below test (x ∷ xs) = subst (λ m. number_of test (x ∷ xs) < m) (sym (pow-succ' 2 (length xs))) (bit_below (test x) (number_of test xs) (2 ^ length xs) (number_below test xs))

pub picked_none : {X : Type 0} (xs : List X) → picked xs 0 ≡ []
picked_none [] = refl
picked_none (x ∷ xs) = picked_none xs

pub picked_member : {X : Type 0} (xs : List X) (n : ℕ) (x : X) → Contains (picked xs n) x → Contains xs x
picked_member [] n x i = absurd (member_nil x i)
picked_member (y ∷ ys) n x i = by_test (picked_member ys (n / 2) x) (n % 2 == 1) i
  where
    by_test : (Contains (picked ys (n / 2)) x → Contains ys x) → (b : Bool) → Contains (cond b (y ∷ picked ys (n / 2)) (picked ys (n / 2))) x → Contains (y ∷ ys) x
    by_test more true j = elim (member_cases y (picked ys (n / 2)) x j) [ inl e ↦ subst (λ z. Contains (y ∷ ys) z) e (here y ys) | inr k ↦ there y ys x (more k) ]
    by_test more false j = there y ys x (more j)

-- ---- tests of all used sets

in_filter : {X : Type 0} (c t : X → Bool) (xs : List X) → ((x : X) → Contains xs x → c x ≡ true → t x ≡ true) → list_all t (filter c xs) ≡ true
in_filter c t [] h = refl
in_filter c t (x ∷ xs) h = by_test (in_filter c t xs (λ y i. h y (there x xs y i))) (c x) refl
  where
    by_test : list_all t (filter c xs) ≡ true → (b : Bool) → c x ≡ b → list_all t (cond b (x ∷ filter c xs) (filter c xs)) ≡ true
    by_test more true e = and_both (t x) (list_all t (filter c xs)) (h x (here x xs) e) more
    by_test more false e = more

of_filter : {X : Type 0} (c t : X → Bool) (xs : List X) → list_all t (filter c xs) ≡ true → (x : X) → Contains xs x → c x ≡ true → t x ≡ true
of_filter c t [] h x i k = absurd (member_nil x i)
of_filter c t (y ∷ ys) h x i k = by_test (λ g j. of_filter c t ys g x j k) (c y) refl h
  where
    by_test : (list_all t (filter c ys) ≡ true → Contains ys x → t x ≡ true) → (b : Bool) → c y ≡ b → list_all t (cond b (y ∷ filter c ys) (filter c ys)) ≡ true → t x ≡ true
    by_test more true e g = elim (member_cases y ys x i) [ inl p ↦ ap t (sym p) ∙ and_left (t y) (list_all t (filter c ys)) g | inr j ↦ more (and_right (t y) (list_all t (filter c ys)) g) j ]
    by_test more false e g = elim (member_cases y ys x i) [ inl p ↦ absurd (both (ap c p ∙ k) e) | inr j ↦ more g j ]
      where
        both : {b : Bool} → b ≡ true → b ≡ false → ⊥
        both p q = cc

in_range : {X : Type 0} (f : ℕ → X) (s l n : ℕ) → s ≤ n → n < s + l → Contains (map f (range_with_len s l)) (f n)
in_range f s zero n a b = absurd (omega arith)
in_range f s (suc l) n a b = elim (cases_lt s n) [
  | inl h ↦ there (f s) (map f (range_with_len (s + 1) l)) (f n) (in_range f (s + 1) l n (omega arith) (omega arith))
  | inr h ↦ let e : s ≡ n = omega arith in subst (λ m. Contains (f s ∷ map f (range_with_len (s + 1) l)) (f m)) e (here (f s) (map f (range_with_len (s + 1) l)))
]

of_range : {X : Type 0} (f : ℕ → X) (s l : ℕ) (x : X) → Contains (map f (range_with_len s l)) x → (n : ℕ) × (f n ≡ x)
of_range f s zero x i = absurd (member_nil x i)
of_range f s (suc l) x i = elim (member_cases (f s) (map f (range_with_len (s + 1) l)) x i) [ inl e ↦ (s, e) | inr j ↦ of_range f (s + 1) l x j ]

-- what holds of all used sets holds of each consistent set with a number from 1 on
pub of_used : (t : List PlainFootprint → Bool) (ps : List PlainFootprint) → list_all t (used_sets ps) ≡ true → (n : ℕ) → 1 ≤ n → n < 2 ^ length ps → is_consistent (picked ps n) ≡ true → t (picked ps n) ≡ true
of_used t ps h n a b k = of_filter is_consistent t (map (picked ps) (range_with_len 1 (2 ^ length ps - 1))) h (picked ps n) (in_range (picked ps) 1 (2 ^ length ps - 1) n a (omega arith)) k

-- and what holds of each set holds of all used ones
pub in_used : (t : List PlainFootprint → Bool) (ps : List PlainFootprint) → ((n : ℕ) → t (picked ps n) ≡ true) → list_all t (used_sets ps) ≡ true
in_used t ps h = in_filter is_consistent t (map (picked ps) (range_with_len 1 (2 ^ length ps - 1))) (λ x i k. let r = of_range (picked ps) 1 (2 ^ length ps - 1) x i in subst (λ z. t z ≡ true) r.1 (h r.0))
