-- The first place that passes a test.
use Rattle.std.proofs.Common.{◌≡◌, ℕ, ◌+◌, ◌<◌, Bool, true, false, not, cond, Some, None, refl, ap, ◌∙◌, arith, List, [], ◌∷◌, length, map, get_or}
use Rattle.std.specs.Prelude.{nat_lt}
use Rattle.std.specs.List.{position, position_or_len, prefix_len}
use Rattle.std.proofs.lemmas.Bool.{lt-ltb, le-ltb}
use Rattle.std.proofs.lemmas.List.{length-map}
use Rattle.std.proofs.lemmas.List.Sums.{position_or_len_is}

prefix-map : {X Y : Type 0} (q : Y → Bool) (f : X → Y) (xs : List X) → prefix_len q (map f xs) ≡ prefix_len (λ x. q (f x)) xs
prefix-map q f [] = refl
prefix-map q f (x ∷ xs) = ap (λ n. cond (q (f x)) (1 + n) 0) (prefix-map q f xs)

pub place-map : {X Y : Type 0} (p : Y → Bool) (f : X → Y) (xs : List X) → position p (map f xs) ≡ position (λ x. p (f x)) xs
place-map p f xs =
    ap (λ n. cond (nat_lt n (length (map f xs))) (Some n) None) (prefix-map (λ y. not (p y)) f xs)
    ∙ ap (λ l. cond (nat_lt (position_or_len (λ x. p (f x)) xs) l) (Some (position_or_len (λ x. p (f x)) xs)) None) (length-map xs f)

pub place_found : {X : Type 0} (p : X → Bool) (xs : List X) (i : ℕ) (d : X) → i < length xs → ((k : ℕ) → k < i → p (get_or xs k d) ≡ false) → p (get_or xs i d) ≡ true → position p xs ≡ Some i
place_found p xs i d h before here =
    ap (λ n. cond (nat_lt n (length xs)) (Some n) None) (position_or_len_is p xs i d (omega arith) before (λ _. here))
    ∙ ap (λ b. cond b (Some i) None) (lt-ltb i (length xs) h)

none_at : {X : Type 0} (p : X → Bool) (xs : List X) (d : X) → ((k : ℕ) → k < length xs → p (get_or xs k d) ≡ false) → position p xs ≡ None
none_at p xs d all =
    ap (λ n. cond (nat_lt n (length xs)) (Some n) None) (position_or_len_is p xs (length xs) d (omega arith) all (λ h. absurd (omega (arith, h))))
    ∙ ap (λ b. cond b (Some (length xs)) None) (le-ltb (length xs) (length xs) (omega arith))

pub place_none : {X : Type 0} (p : X → Bool) (xs : List X) → ((k : ℕ) (d : X) → k < length xs → p (get_or xs k d) ≡ false) → position p xs ≡ None
place_none p [] all = refl
place_none p (x ∷ xs) all = none_at p (x ∷ xs) x (λ k h. all k x h)
