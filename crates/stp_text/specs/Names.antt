-- The words that are names and variables. Words are folded to lower case.
use Rattle.std.specs.Prelude.{ℕ, Bool, false, ◌==◌, ◌&&◌, ◌||◌, List, [], ◌∷◌}
use Rattle.std.specs.Char.{is_ascii_lowercase, is_ascii_digit}
use Rattle.std.specs.List.{list_all}

-- a lower-case letter, a digit or `_`
abbrev pub begins_name : ℕ → Bool
begins_name byte = (is_ascii_lowercase byte || is_ascii_digit byte) || (byte == 95)

-- one of these or `-`
abbrev pub goes_on_name : ℕ → Bool
goes_on_name byte = begins_name byte || (byte == 45)

-- one that may begin a name, and then those that may go on with it
abbrev pub is_name : List ℕ → Bool
is_name [] = false
is_name (byte ∷ bytes) = begins_name byte && list_all goes_on_name bytes

-- `?` and a name
abbrev pub is_variable : List ℕ → Bool
is_variable [] = false
is_variable (byte ∷ bytes) = (byte == 63) && is_name bytes
