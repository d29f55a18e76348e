-- Laws of numbers in decimal digits.
use Rattle.std.proofs.Common.{◌≡◌, ℕ, ◌+◌, ◌/◌, ◌%◌, ◌^◌, ◌<◌, ◌≤◌, List, [], ◌∷◌, ◌++◌, length, decimal, sym, ◌∙◌, ap, arith, append_assoc, length-append}
use Rattle.std.proofs.lemmas.Fmt.{decimal_step, decimal_nonempty, length-decimal-le}

-- the last digit of a number moves in front of what follows it
pub digit_moved : (n : ℕ) (xs : List ℕ) → 10 ≤ n → n < 10 ^ 18 → decimal (n / 10) ++ ((48 + n % 10) ∷ xs) ≡ decimal n ++ xs
digit_moved n xs some small =
    sym (ap (λ (ds : List ℕ). ds ++ xs) (decimal_step n some (omega arith)) ∙ append_assoc (decimal (n / 10)) ((48 + n % 10) ∷ []) xs)

pub length_with_digits : (n m : ℕ) (xs ys : List ℕ) → n < 10 ^ 18 → m < 10 ^ 18 → decimal n ++ xs ≡ decimal m ++ ys → length xs < length ys + 18
length_with_digits n m xs ys small small' e =
    let some : 0 < length (decimal n) = decimal_nonempty n (omega arith) in
    let few : length (decimal m) ≤ 18 = length-decimal-le 18 m (omega arith) small' (omega arith) in
    let same : length (decimal n) + length xs ≡ length (decimal m) + length ys
    = sym (length-append (decimal n) xs) ∙ ap length e ∙ length-append (decimal m) ys in
    omega (arith, some, few, same)
