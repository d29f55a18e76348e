-- Lists of numbers that rise, and what the set of a list has.
use Rattle.std.proofs.Common.{◌≡◌, ℕ, ◌<◌, ◌≤◌, suc, Bool, true, false, not, ◌&&◌, ◌||◌, ◌==◌, nat_lt, cond, List, [], ◌∷◌, get_or, refl, sym, ap, ◌∙◌, ⊎_elim, arith, Contains}
use Rattle.std.specs.List.{list_any, list_all, AllPairs, filter, dedup}
use Rattle.std.specs.List.Sorted.{IsSorted, IsPermutation}
use Rattle.std.specs.Ordering.{nat_cmp}
use Rattle.std.proofs.lemmas.Bool.{cases_order, cases_Bool, cond-true, cond-false, lt-ltb, le-ltb, eq-eqb, ne_eqb, ltb-true, eqb-true, and_from, and_parts, and_right, or_cases, or_left, or_right, both_ways}
use Rattle.std.proofs.lemmas.List.Folds.{list_any_at}
use Rattle.std.proofs.lemmas.List.Recursion.{and_from_places}
use Rattle.std.proofs.lemmas.List.Kept.{AllPairs-from_increasing, Contains-dedup_nat, Contains-from_dedup}
use Rattle.std.proofs.lemmas.List.Sorted.{Contains-permutation, IsPermutation-sym}
use Rattle.std.proofs.lemmas.Map.Keys.{IsStrictlyIncreasing-dedup}
use Rattle.stp_cond.specs.Atoms.{has, have_common, with_number, set_of, without}

-- each number is below all that stand after it
abbrev pub rises : List ℕ → Bool
rises [] = true
rises (x ∷ xs) = list_all (nat_lt x) xs && rises xs

-- ---- tests

or_again : (p q : Bool) → (p || q) ≡ (p || (p || q))
or_again true q = refl
or_again false q = refl

or_swap : (p q r : Bool) → (p || (q || r)) ≡ (q || (p || r))
or_swap true true r = refl
or_swap true false r = refl
or_swap false q r = refl

and_again : (p q : Bool) → (p && q) ≡ (p && (p && q))
and_again true q = refl
and_again false q = refl

and_swap : (p q r : Bool) → (p && (q && r)) ≡ (q && (p && r))
and_swap true q r = refl
and_swap false true r = refl
and_swap false false r = refl

pub same_tests : (p q : Bool) → (p ≡ true → q ≡ true) → (q ≡ true → p ≡ true) → p ≡ q
same_tests true q f g = sym (f refl)
same_tests false true f g = g refl
same_tests false false f g = refl

-- ---- one more number

with_below : (n x : ℕ) (xs : List ℕ) → n < x → with_number n (x ∷ xs) ≡ n ∷ x ∷ xs
with_below n x xs h = cond-true (nat_lt n x) _ _ (lt-ltb n x h)

with_equal : (n x : ℕ) (xs : List ℕ) → n ≡ x → with_number n (x ∷ xs) ≡ x ∷ xs
with_equal n x xs h = cond-false (nat_lt n x) _ _ (le-ltb n x (omega arith)) ∙ cond-true (n == x) _ _ (eq-eqb n x h)

with_above : (n x : ℕ) (xs : List ℕ) → x < n → with_number n (x ∷ xs) ≡ x ∷ with_number n xs
with_above n x xs h = cond-false (nat_lt n x) _ _ (le-ltb n x (omega arith)) ∙ cond-false (n == x) _ _ (ne_eqb n x (λ e. omega arith))

any_with : (p : ℕ → Bool) (n : ℕ) (xs : List ℕ) → list_any p (with_number n xs) ≡ (p n || list_any p xs)
any_with p n [] = refl
any_with p n (x ∷ xs) =
    ⊎_elim
    (λ e. ap (list_any p) (with_equal n x xs e) ∙ (or_again (p x) (list_any p xs) ∙ ap (λ m. p m || (p x || list_any p xs)) (sym e)))
    (λ r. ⊎_elim
    (λ h. ap (list_any p) (with_below n x xs h))
    (λ h. ap (list_any p) (with_above n x xs h) ∙ (ap (λ b. p x || b) (any_with p n xs) ∙ or_swap (p x) (p n) (list_any p xs)))
    r)
    (cases_order n x)

all_with : (p : ℕ → Bool) (n : ℕ) (xs : List ℕ) → list_all p (with_number n xs) ≡ (p n && list_all p xs)
all_with p n [] = refl
all_with p n (x ∷ xs) =
    ⊎_elim
    (λ e. ap (list_all p) (with_equal n x xs e) ∙ (and_again (p x) (list_all p xs) ∙ ap (λ m. p m && (p x && list_all p xs)) (sym e)))
    (λ r. ⊎_elim
    (λ h. ap (list_all p) (with_below n x xs h))
    (λ h. ap (list_all p) (with_above n x xs h) ∙ (ap (λ b. p x && b) (all_with p n xs) ∙ and_swap (p x) (p n) (list_all p xs)))
    r)
    (cases_order n x)

-- ---- the set of a list

pub any_set : (p : ℕ → Bool) (xs : List ℕ) → list_any p (set_of xs) ≡ list_any p xs
any_set p [] = refl
any_set p (x ∷ xs) = any_with p x (set_of xs) ∙ ap (λ b. p x || b) (any_set p xs)

pub all_set : (p : ℕ → Bool) (xs : List ℕ) → list_all p (set_of xs) ≡ list_all p xs
all_set p [] = refl
all_set p (x ∷ xs) = all_with p x (set_of xs) ∙ ap (λ b. p x && b) (all_set p xs)

pub has_set : (xs : List ℕ) (a : ℕ) → has (set_of xs) a ≡ has xs a
has_set xs a = any_set (λ b. b == a) xs

above_weaker : (n x : ℕ) (xs : List ℕ) → n < x → list_all (nat_lt x) xs ≡ true → list_all (nat_lt n) xs ≡ true
above_weaker n x [] h all = refl
above_weaker n x (y ∷ ys) h all =
    let parts = and_parts (nat_lt x y) (list_all (nat_lt x) ys) all in
    and_from (nat_lt n y) (list_all (nat_lt n) ys) (lt-ltb n y (omega (arith, ltb-true x y parts.0))) (above_weaker n x ys h parts.1)

rises_with : (n : ℕ) (xs : List ℕ) → rises xs ≡ true → rises (with_number n xs) ≡ true
rises_with n [] up = refl
rises_with n (x ∷ xs) up =
    let parts = and_parts (list_all (nat_lt x) xs) (rises xs) up in
    ⊎_elim
    (λ e. ap rises (with_equal n x xs e) ∙ up)
    (λ r. ⊎_elim
    (λ h. ap rises (with_below n x xs h) ∙ and_from (nat_lt n x && list_all (nat_lt n) xs) (rises (x ∷ xs)) (and_from (nat_lt n x) (list_all (nat_lt n) xs) (lt-ltb n x h) (above_weaker n x xs h parts.0)) up)
    (λ h. ap rises (with_above n x xs h)
    ∙ and_from (list_all (nat_lt x) (with_number n xs)) (rises (with_number n xs)) (all_with (nat_lt x) n xs ∙ and_from (nat_lt x n) (list_all (nat_lt x) xs) (lt-ltb x n h) parts.0) (rises_with n xs parts.1))
    r)
    (cases_order n x)

pub set_rises : (xs : List ℕ) → rises (set_of xs) ≡ true
set_rises [] = refl
set_rises (x ∷ xs) = rises_with x (set_of xs) (set_rises xs)

with_front : (n : ℕ) (xs : List ℕ) → list_all (nat_lt n) xs ≡ true → with_number n xs ≡ n ∷ xs
with_front n [] all = refl
with_front n (x ∷ xs) all = with_below n x xs (ltb-true n x (and_parts (nat_lt n x) (list_all (nat_lt n) xs) all).0)

-- a list that rises is its own set
pub set_of_rising : (xs : List ℕ) → rises xs ≡ true → set_of xs ≡ xs
set_of_rising [] up = refl
set_of_rising (x ∷ xs) up =
    let parts = and_parts (list_all (nat_lt x) xs) (rises xs) up in
    ap (with_number x) (set_of_rising xs parts.1) ∙ with_front x xs parts.0

pub rises_from_set : (xs : List ℕ) → set_of xs ≡ xs → rises xs ≡ true
rises_from_set xs e = ap rises (sym e) ∙ set_rises xs

pub set_twice : (xs : List ℕ) → set_of (set_of xs) ≡ set_of xs
set_twice xs = set_of_rising (set_of xs) (set_rises xs)

-- ---- what a list has

pub has_from_Contains : (xs : List ℕ) (a : ℕ) → Contains xs a → has xs a ≡ true
has_from_Contains xs a i = list_any_at (λ b. b == a) xs i.0 a i.1 (eq-eqb (get_or xs i.0 a) a i.2)

pub Contains_from_has : (xs : List ℕ) (a : ℕ) → has xs a ≡ true → Contains xs a
Contains_from_has [] a h = absurd (both_ways false refl h)
Contains_from_has (x ∷ xs) a h =
    ⊎_elim
    (λ e. (0, omega arith, eqb-true x a e))
    (λ r. let i = Contains_from_has xs a r in (suc i.0, omega arith, i.2))
    (or_cases (x == a) (has xs a) h)

above_lacks : (x : ℕ) (xs : List ℕ) (a : ℕ) → list_all (nat_lt x) xs ≡ true → a ≤ x → has xs a ≡ false
above_lacks x [] a all h = refl
above_lacks x (y ∷ ys) a all h =
    let parts = and_parts (nat_lt x y) (list_all (nat_lt x) ys) all in
    let less : x < y = ltb-true x y parts.0 in
    ap (λ b. b || has ys a) (ne_eqb y a (λ e. omega arith)) ∙ above_lacks x ys a parts.1 h

pub has_first : (x : ℕ) (xs : List ℕ) → has (x ∷ xs) x ≡ true
has_first x xs = or_left (x == x) (has xs x) (eq-eqb x x refl)

-- the first of two rising lists is no more than what the other begins with, where that one has it
first_least : (x y : ℕ) (ys : List ℕ) → list_all (nat_lt y) ys ≡ true → has (y ∷ ys) x ≡ true → y ≤ x
first_least x y ys up h =
    ⊎_elim
    (λ e. omega (arith, eqb-true y x e))
    (λ r. ⊎_elim (λ e. omega arith) (λ s. ⊎_elim (λ g. absurd (both_ways (has ys x) (above_lacks y ys x up (omega arith)) r)) (λ g. omega arith) s) (cases_order x y))
    (or_cases (y == x) (has ys x) h)

rest_same : (x : ℕ) (xs ys : List ℕ) → list_all (nat_lt x) xs ≡ true → list_all (nat_lt x) ys ≡ true → (a : ℕ) → has (x ∷ xs) a ≡ has (x ∷ ys) a → has xs a ≡ has ys a
rest_same x xs ys up vp a h =
    ⊎_elim
    (λ e. above_lacks x xs a up (omega (arith, eqb-true x a e)) ∙ sym (above_lacks x ys a vp (omega (arith, eqb-true x a e))))
    (λ e. ap (λ b. b || has xs a) (sym e) ∙ (h ∙ ap (λ b. b || has ys a) e))
    (cases_Bool (x == a))

-- two lists that rise and have the same numbers are one
pub one_rising : (xs ys : List ℕ) → rises xs ≡ true → rises ys ≡ true → ((a : ℕ) → has xs a ≡ has ys a) → xs ≡ ys
one_rising [] [] up vp h = refl
one_rising [] (y ∷ ys) up vp h = absurd (both_ways (has (y ∷ ys) y) (sym (h y)) (has_first y ys))
one_rising (x ∷ xs) [] up vp h = absurd (both_ways (has (x ∷ xs) x) (h x) (has_first x xs))
one_rising (x ∷ xs) (y ∷ ys) up vp h =
    let u = and_parts (list_all (nat_lt x) xs) (rises xs) up in
    let v = and_parts (list_all (nat_lt y) ys) (rises ys) vp in
    let low : y ≤ x = first_least x y ys v.0 (sym (h x) ∙ has_first x xs) in
    let high : x ≤ y = first_least y x xs u.0 (h y ∙ has_first y ys) in
    let e : y ≡ x = omega arith in
    let w : list_all (nat_lt x) ys ≡ true = ap (λ m. list_all (nat_lt m) ys) (sym e) ∙ v.0 in
    let same : (a : ℕ) → has (x ∷ xs) a ≡ has (x ∷ ys) a = λ a. h a ∙ ap (λ m. has (m ∷ ys) a) e in
    ap (λ l. x ∷ l) (one_rising xs ys u.1 v.1 (λ a. rest_same x xs ys u.0 w a (same a))) ∙ ap (λ m. m ∷ ys) (sym e)

pub same_sets : (xs ys : List ℕ) → ((a : ℕ) → has xs a ≡ has ys a) → set_of xs ≡ set_of ys
same_sets xs ys h = one_rising (set_of xs) (set_of ys) (set_rises xs) (set_rises ys) (λ a. has_set xs a ∙ (h a ∙ sym (has_set ys a)))

-- ---- parts of a list

any_cond : (q : ℕ → Bool) (b : Bool) (x : ℕ) (xs : List ℕ) → list_any q (cond b (x ∷ xs) xs) ≡ (b && q x || list_any q xs)
any_cond q true x xs = refl
any_cond q false x xs = refl

any_filter : (p q : ℕ → Bool) (xs : List ℕ) → list_any q (filter p xs) ≡ list_any (λ x. p x && q x) xs
any_filter p q [] = refl
any_filter p q (x ∷ xs) = any_cond q (p x) x (filter p xs) ∙ ap (λ b. p x && q x || b) (any_filter p q xs)

all_cond : (q : ℕ → Bool) (b : Bool) (x : ℕ) (xs : List ℕ) → q x && list_all q xs ≡ true → list_all q (cond b (x ∷ xs) xs) ≡ true
all_cond q true x xs h = h
all_cond q false x xs h = (and_parts (q x) (list_all q xs) h).1

pub all_filter : (p q : ℕ → Bool) (xs : List ℕ) → list_all q xs ≡ true → list_all q (filter p xs) ≡ true
all_filter p q [] h = refl
all_filter p q (x ∷ xs) h =
    let parts = and_parts (q x) (list_all q xs) h in
    all_cond q (p x) x (filter p xs) (and_from (q x) (list_all q (filter p xs)) parts.0 (all_filter p q xs parts.1))

rises_cond : (b : Bool) (x : ℕ) (xs : List ℕ) → list_all (nat_lt x) xs ≡ true → rises xs ≡ true → rises (cond b (x ∷ xs) xs) ≡ true
rises_cond true x xs above up = and_from (list_all (nat_lt x) xs) (rises xs) above up
rises_cond false x xs above up = up

rises_filter : (p : ℕ → Bool) (xs : List ℕ) → rises xs ≡ true → rises (filter p xs) ≡ true
rises_filter p [] up = refl
rises_filter p (x ∷ xs) up =
    let parts = and_parts (list_all (nat_lt x) xs) (rises xs) up in
    rises_cond (p x) x (filter p xs) (all_filter p (nat_lt x) xs parts.0) (rises_filter p xs parts.1)

-- a filter of a set is the set of the filtered list
pub set_filter : (p : ℕ → Bool) (xs : List ℕ) → set_of (filter p xs) ≡ filter p (set_of xs)
set_filter p xs =
    one_rising (set_of (filter p xs)) (filter p (set_of xs)) (set_rises (filter p xs)) (rises_filter p (set_of xs) (set_rises xs))
    (λ a. has_set (filter p xs) a ∙ (any_filter p (λ b. b == a) xs ∙ (sym (any_set (λ x. p x && (x == a)) xs) ∙ sym (any_filter p (λ b. b == a) (set_of xs)))))

none_left : (p : ℕ → Bool) (ys : List ℕ) → ((a : ℕ) → has ys a ≡ true → p a ≡ false) → list_any p ys ≡ false
none_left p [] h = refl
none_left p (y ∷ ys) h = ap (λ b. b || list_any p ys) (h y (has_first y ys)) ∙ none_left p ys (λ a i. h a (or_right (y == a) (has ys a) i))

not_both : (ys : List ℕ) (a b : ℕ) → has ys a ≡ true → (not (has ys b) && (b == a)) ≡ false
not_both ys a b h =
    ⊎_elim
    (λ e. ap (λ m. not (has ys m) && (b == a)) (eqb-true b a e) ∙ ap (λ t. not t && (b == a)) h)
    (λ e. ap (λ t. not (has ys b) && t) e ∙ and_right (not (has ys b)) false refl)
    (cases_Bool (b == a))

has_without : (xs ys : List ℕ) (a : ℕ) → has ys a ≡ true → has (without xs ys) a ≡ false
has_without xs ys a h = any_filter (λ x. not (has ys x)) (λ b. b == a) xs ∙ none_left (λ x. not (has ys x) && (x == a)) xs (λ b i. not_both ys a b h)

-- what is left without a list has nothing in common with it
pub without_apart : (xs ys : List ℕ) → have_common (set_of xs) (set_of (without ys xs)) ≡ false
without_apart xs ys = any_set (has (set_of (without ys xs))) xs ∙ none_left (has (set_of (without ys xs))) xs (λ a h. has_set (without ys xs) a ∙ has_without ys xs a h)

-- ---- sorting

pub rises_from_pairs : (xs : List ℕ) → AllPairs (λ x y. x < y) xs → rises xs ≡ true
rises_from_pairs [] h = refl
rises_from_pairs (x ∷ xs) h =
    and_from (list_all (nat_lt x) xs) (rises xs)
    (and_from_places (list_all (nat_lt x)) (nat_lt x) refl (λ _ _. refl) xs 0 (λ k l. lt-ltb x (get_or xs k 0) (h 0 (suc k) 0 (omega arith) (omega arith))))
    (rises_from_pairs xs (λ i j d l m. h (suc i) (suc j) d (omega arith) (omega arith)))

-- sorted, and with repeats dropped, a list is its set
pub set_from_sort : (xs ys : List ℕ) → IsPermutation xs ys → IsSorted nat_cmp ys → dedup ◌==◌ ys ≡ set_of xs
set_from_sort xs ys moved up =
    one_rising (dedup ◌==◌ ys) (set_of xs) (rises_from_pairs (dedup ◌==◌ ys) (AllPairs-from_increasing (dedup ◌==◌ ys) (IsStrictlyIncreasing-dedup ys up))) (set_rises xs)
    (λ a. same_tests (has (dedup ◌==◌ ys) a) (has (set_of xs) a)
    (λ h. has_set xs a ∙ has_from_Contains xs a (Contains-permutation ys xs a (IsPermutation-sym xs ys moved) (Contains-from_dedup ◌==◌ ys a (Contains_from_has (dedup ◌==◌ ys) a h))))
    (λ h. has_from_Contains (dedup ◌==◌ ys) a (Contains-dedup_nat ys a (Contains-permutation xs ys a moved (Contains_from_has xs a (sym (has_set xs a) ∙ h))))))
