-- The lines up to a number, and that of the next.
use Rattle.std.proofs.Common.{◌≡◌, refl, ℕ, ◌+◌, List, ◌++◌}
use native.Mathlib.Numerals.{unary_clauses}
use Rattle.stp_demo.specs.Pieces.{each}

pub one_more : (text : ℕ → List ℕ) (n : ℕ) → each text (n + 1) ≡ each text n ++ text (n + 1)
one_more text n = simp unary_clauses refl
