-- What is left to be marked.
use Rattle.std.proofs.Common.{◌≡◌, ℕ, zero, suc, ◌<◌, Bool, true, false, List, length, set, get_or, arith, refl}
use Rattle.std.specs.List.{sum_by}
use Rattle.std.proofs.lemmas.List.Sums.{sum_by-set}

abbrev pub unmarked : Bool → ℕ
unmarked true = 0
unmarked false = 1

abbrev pub fresh : ℕ → ℕ
fresh zero = 1
fresh (suc n) = 0

pub fewer_unmarked : (xs : List Bool) (i : ℕ) → i < length xs → get_or xs i false ≡ false → sum_by unmarked (set xs i true) < sum_by unmarked xs
fewer_unmarked xs i h e = let s = sum_by-set unmarked xs i true false h in let t = rw e at s in omega arith

fresh_no : (n : ℕ) → 0 < n → fresh n ≡ 0
fresh_no zero h = absurd (omega (arith, h))
fresh_no (suc n) h = refl

pub fewer_fresh : (xs : List ℕ) (i n : ℕ) → i < length xs → 0 < n → get_or xs i 0 ≡ 0 → sum_by fresh (set xs i n) < sum_by fresh xs
fewer_fresh xs i n h some e = let s = sum_by-set fresh xs i n 0 h in let t = rw e at s in let u = fresh_no n some in omega arith
