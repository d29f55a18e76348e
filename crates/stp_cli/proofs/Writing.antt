-- Beginnings of texts that were written.
use Rattle.std.proofs.Common.{◌≡◌, ℕ, ◌≤◌, List, ◌++◌, length, take, Option, subst}
use Rattle.std.specs.Prelude.{option_map}

-- a beginning of one text was appended
abbrev pub IsFront : Option (List ℕ) → Option (List ℕ) → List ℕ → Type 0
IsFront written after text = (n : ℕ) × (n ≤ length text) × (after ≡ option_map (λ w. w ++ take n text) written)

pub same_front : (written after : Option (List ℕ)) (text other : List ℕ) → text ≡ other → IsFront written after text → IsFront written after other
same_front written after text other e front = subst (IsFront written after) e front
