-- Lists whose items come in order, and entries that are sorted by time and then by step.
use Rattle.std.proofs.Common.{◌≡◌, ℕ, zero, suc, ◌<◌, ◌==◌, nat_lt, Bool, true, false, not, ◌&&◌, ◌||◌, List, [], ◌∷◌, ◌++◌, map, length, get_or, Contains, IsPermutation, IsSortedByKey, inl, inr, refl, ap₂, sym, ◌∙◌, subst, arith}
use Rattle.std.specs.List.{list_all, IsDistinct}
use Rattle.std.specs.Ordering.{is_lt}
use Rattle.std.specs.Cmp.{IsStrictWeakOrder}
use Rattle.std.proofs.lemmas.Bool.Decides.{nat_tests}
use Rattle.std.proofs.lemmas.List.Folds.{list_all-map}
use Rattle.std.proofs.lemmas.List.Elements.{Contains-get_or, Contains-append_cases}
use Rattle.std.proofs.lemmas.List.Sorted.{sorted_far}
use Rattle.std.proofs.lemmas.Map.Keys.{IsDistinct-from_apart, IsDistinct-IsPermutation, apart_from_distinct}
use Rattle.stp_happen.specs.declared.run.Entry.{Entry}
use Rattle.stp_happen.specs.Sound.{is_ascending, entry_before}
use Rattle.stp_happen.specs.Times.{time_and_step, by_time_and_step}
use Rattle.stp_happen.proofs.Members.{here, there, each_passes, all_pass, and_left, and_right, and_both}

-- ---- in order, and pairs of items

pub ascending_map : {X Y : Type 0} (before : Y → Y → Bool) (f : X → Y) (xs : List X) → is_ascending before (map f xs) ≡ is_ascending (λ x y. before (f x) (f y)) xs
ascending_map before f [] = refl
ascending_map before f (x ∷ xs) = ap₂ (λ b c. b && c) (list_all-map (before (f x)) f xs) (ascending_map before f xs)

pub ascending_pair : {X : Type 0} (before : X → X → Bool) (xs : List X) (d : X) → is_ascending before xs ≡ true → (i j : ℕ) → i < j → j < length xs → before (get_or xs i d) (get_or xs j d) ≡ true
ascending_pair before [] d h i j l m = absurd (omega (arith, m))
ascending_pair before (x ∷ xs) d h zero zero l m = absurd (omega (arith, l))
ascending_pair before (x ∷ xs) d h zero (suc j) l m = each_passes (before x) xs (and_left (list_all (before x) xs) (is_ascending before xs) h) (get_or xs j d) (Contains-get_or xs j d (omega (arith, m)))
ascending_pair before (x ∷ xs) d h (suc i) zero l m = absurd (omega (arith, l))
ascending_pair before (x ∷ xs) d h (suc i) (suc j) l m = ascending_pair before xs d (and_right (list_all (before x) xs) (is_ascending before xs) h) i j (omega (arith, l)) (omega (arith, m))

pub ascending_from_pairs : {X : Type 0} (before : X → X → Bool) (xs : List X) → ((i j : ℕ) (d : X) → i < j → j < length xs → before (get_or xs i d) (get_or xs j d) ≡ true) → is_ascending before xs ≡ true
ascending_from_pairs before [] h = refl
ascending_from_pairs before (x ∷ xs) h =
    and_both (list_all (before x) xs) (is_ascending before xs)
    (all_pass (before x) xs (λ y i. subst (λ z. before x z ≡ true) i.2 (h 0 (suc i.0) y (omega arith) (omega (arith, i.1)))))
    (ascending_from_pairs before xs (λ i j d l m. h (suc i) (suc j) d (omega arith) (omega arith)))

-- ---- joined lists

pub joined_ascend : {X : Type 0} (before : X → X → Bool) (xs ys : List X) → is_ascending before xs ≡ true → is_ascending before ys ≡ true →
    ((x y : X) → Contains xs x → Contains ys y → before x y ≡ true) → is_ascending before (xs ++ ys) ≡ true
joined_ascend before [] ys h k l = k
joined_ascend before (x ∷ xs) ys h k l =
    and_both (list_all (before x) (xs ++ ys)) (is_ascending before (xs ++ ys))
    (all_pass (before x) (xs ++ ys) (λ y i. elim (Contains-append_cases xs ys y i) [
      | inl j ↦ each_passes (before x) xs (and_left (list_all (before x) xs) (is_ascending before xs) h) y j
      | inr j ↦ l x y (here x xs) j
    ]))
    (joined_ascend before xs ys (and_right (list_all (before x) xs) (is_ascending before xs) h) k (λ z y i j. l z y (there x xs z i) j))

-- ---- a list by time and then by step in which no time and step come twice

pub same_moment : Entry → Entry → Bool
same_moment e o = (e.time == o.time) && (e.step.0 == o.step.0)

earlier : Entry → Entry → Bool
earlier e o = is_lt (by_time_and_step (time_and_step e) (time_and_step o))

earlier_is : (e o : Entry) → earlier e o ≡ entry_before e o
unfolding earlier
earlier_is e o = grind (arith, nat_tests)

-- by the first number, and then by the second
abbrev lex : ℕ → ℕ → ℕ → ℕ → Bool
lex a b c d = nat_lt a c || ((a == c) && nat_lt b d)

lex_one_way : (a b c d : ℕ) → lex a b c d ≡ true → lex c d a b ≡ false
lex_one_way a b c d h = grind (arith, nat_tests)

lex_chain : (a b c d e f : ℕ) → lex a b c d ≡ false → lex c d e f ≡ false → lex a b e f ≡ false
lex_chain a b c d e f h k = grind (arith, nat_tests)

orders_entries : IsStrictWeakOrder earlier
orders_entries = record {
  one_way = λ x y h. earlier_is y x ∙ lex_one_way x.time x.step.0 y.time y.step.0 (sym (earlier_is x y) ∙ h);
  chain = λ x y z h k. earlier_is x z ∙ lex_chain x.time x.step.0 y.time y.step.0 z.time z.step.0 (sym (earlier_is x y) ∙ h) (sym (earlier_is y z) ∙ k);
}

then_before : (e o : Entry) → earlier o e ≡ false → same_moment e o ≡ false → entry_before e o ≡ true
unfolding earlier same_moment
then_before e o h k = grind (arith, nat_tests)

pub ascending_from_sorted : (es : List Entry) → IsDistinct same_moment es → IsSortedByKey time_and_step by_time_and_step es → is_ascending entry_before es ≡ true
unfolding earlier
ascending_from_sorted es distinct sorted = ascending_from_pairs entry_before es (λ i j d l m.
    then_before (get_or es i d) (get_or es j d) (sorted_far earlier orders_entries es sorted i j d (omega arith) m) (apart_from_distinct same_moment es i j d distinct l m))

pub same_turned : (e o : Entry) → same_moment e o ≡ same_moment o e
unfolding same_moment
same_turned e o = grind (arith, nat_tests)

told_apart : (e o : Entry) → not ((e.time == o.time) && (e.step.0 == o.step.0)) ≡ true → same_moment e o ≡ false
unfolding same_moment
told_apart e o h = grind (arith, nat_tests)

-- no time and step come twice where each two in order differ in one of them
pub distinct_from_apart : (es : List Entry) → is_ascending (λ e o. not ((e.time == o.time) && (e.step.0 == o.step.0))) es ≡ true → IsDistinct same_moment es
distinct_from_apart es up = IsDistinct-from_apart same_moment es (λ i j d l m. told_apart (get_or es i d) (get_or es j d) (ascending_pair (λ e o. not ((e.time == o.time) && (e.step.0 == o.step.0))) es d up i j l m))

pub sorted_ascend : (es os : List Entry) → is_ascending (λ e o. not ((e.time == o.time) && (e.step.0 == o.step.0))) es ≡ true → IsPermutation es os → IsSortedByKey time_and_step by_time_and_step os → is_ascending entry_before os ≡ true
sorted_ascend es os up moves sorted = ascending_from_sorted os (IsDistinct-IsPermutation same_moment same_turned es os moves (distinct_from_apart es up)) sorted
