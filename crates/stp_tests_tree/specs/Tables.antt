-- Trees that are given by a table.
use Rattle.std.specs.Prelude.{◌≡◌, ℕ, Bool, true, false, if◌then◌else◌, List, [], ◌∷◌, slice_index_or, replicate, Option, Some, None, option_map}
use Rattle.stp_tests_tree.specs.declared.table.Row.{Row}

-- The row of a number: the one there, or one from which no move leads.
abbrev pub row_at : List Row → ℕ → Row
row_at rows number = slice_index_or rows number (record { left = None; right = None; valid = false; estimate = 0 })

-- Where a move leads.
abbrev pub step : List Row → Option ℕ → Bool → Option ℕ
step rows None right = None
step rows (Some number) right = if right then (row_at rows number).right else (row_at rows number).left

-- Where moves lead.
abbrev pub walk : List Row → Option ℕ → List Bool → Option ℕ
walk rows at [] = at
walk rows at (right ∷ s) = walk rows (step rows at right) s

-- Moves are a node where they lead to a number.
abbrev pub is_number : Option ℕ → Bool
is_number None = false
is_number (Some number) = true

abbrev pub IsNode : List Row → List Bool → Type 0
IsNode rows s = is_number (walk rows (Some 0) s) ≡ true

-- It is valid where the row of the number is.
abbrev pub is_valid_at : List Row → Option ℕ → Bool
is_valid_at rows None = false
is_valid_at rows (Some number) = (row_at rows number).valid

abbrev pub IsValid : List Row → List Bool → Type 0
IsValid rows s = is_valid_at rows (walk rows (Some 0) s) ≡ true

-- The state of a node, if equal numbers are to be met once.
abbrev pub state_of : Bool → Option ℕ → Option (List Bool)
state_of merges at = if merges then option_map (λ number. replicate number true) at else None
