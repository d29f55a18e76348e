-- Lines, and what they have in common.
use Rattle.std.specs.Prelude.{ℕ, zero, suc, ◌+◌, ◌%◌, List, [], ◌∷◌, ◌++◌}

-- a line's text with its end
abbrev pub line : List ℕ → List ℕ
line text = text ++ 10 ∷ []

-- the texts of the numbers from 1 to n, in order
abbrev pub each : (ℕ → List ℕ) → ℕ → List ℕ
each text zero = []
each text (suc n) = each text n ++ text (suc n)

-- the least and the greatest duration of the drive to a place
abbrev pub fast : ℕ → ℕ
fast place = place % 3 + 1

abbrev pub slow : ℕ → ℕ
slow place = place % 5 + 5
