-- Lists, one element at a time.
use Rattle.std.proofs.Common.{◌≡◌, ℕ, ◌≤◌, List, [], length, map, drop, ap}
use Rattle.std.proofs.lemmas.List.{drop_all}

-- nothing is left behind the end
pub mapped_past : {A B : Type 0} (f : A → B) (xs : List A) (i : ℕ) → length xs ≤ i → map f (drop i xs) ≡ []
mapped_past f xs i above = ap (map f) (drop_all i xs above)
