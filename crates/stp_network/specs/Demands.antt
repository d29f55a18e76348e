-- Constraints in natural numbers: the first point comes at least a lag after the second, less a lead.
use Rattle.std.specs.Prelude.{ℕ, suc, ◌+◌, ◌*◌, ◌≤◌, ℤ, pos, negsuc, Bool, true, false}
use Rattle.stp_network.specs.Network.{Constraint}

-- an integer is the difference of these two, of which one is 0
abbrev pub positive_part : ℤ → ℕ
positive_part (pos n) = n
positive_part (negsuc n) = 0

abbrev pub negative_part : ℤ → ℕ
negative_part (pos n) = 0
negative_part (negsuc n) = suc n

-- on whole moments less means at least one less
abbrev pub strict_part : Bool → ℕ
strict_part true = 1
strict_part false = 0

abbrev pub lag : ℕ → Constraint → ℕ
lag grid c = grid * negative_part c.bound + strict_part c.strict

abbrev pub lead : ℕ → Constraint → ℕ
lead grid c = grid * positive_part c.bound

abbrev pub IsMet : ℕ → (ℕ → ℕ) → Constraint → Type 0
IsMet grid time c = time c.to + lag grid c ≤ time c.from + lead grid c
