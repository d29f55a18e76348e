-- The step that a text spells.
use Rattle.std.specs.Prelude.{ℕ, ◌==◌, Bool, false, if◌then◌else◌, List, [], ◌∷◌, Option, Some, None, option_map}
use Rattle.std.specs.List.{list_any, before_first, after_first}
use Rattle.stp_frac.specs.Fractions.{Fraction}
use Rattle.stp_plan.specs.Parts.{Part, Colon, OpenBracket, CloseBracket, Run, parts}
use Rattle.stp_base.specs.Options.{◌>>=◌}
use Rattle.stp_plan.specs.Names.{atom_of}
use Rattle.stp_plan.specs.Numbers.{plain_number}

-- what stands in a step's bracket
pub data PlainBracket : Type 0 where
  NoBracket : PlainBracket
  Exactly : (number : Fraction) → PlainBracket
  AnyNumber : PlainBracket
  Between : (low high : Fraction) → PlainBracket

-- a step
pub record PlainStep : Type 0 where
  pub at : Fraction
  pub name : List ℕ
  pub args : List (List ℕ)
  pub bracket : PlainBracket

-- a number before a `:`, and what follows it
abbrev pub time_of : List Part → Option (Fraction × List Part)
time_of (Run word ∷ Colon ∷ rest) = option_map (λ at. (at, rest)) (plain_number word)
time_of _ = None

-- a `*`, 42, alone
abbrev pub is_star : List ℕ → Bool
is_star (b ∷ []) = b == 42
is_star _ = false

-- a comma, 44
abbrev pub is_comma : ℕ → Bool
is_comma b = b == 44

-- two numbers, if both are there
abbrev pub pair_of : Option Fraction → Option Fraction → Option PlainBracket
pair_of low high = do
  l ← low
  h ← high
  Some (Between l h)

-- a `*`, two numbers that a comma parts, or a number
abbrev pub inside : List ℕ → Option PlainBracket
inside word =
    if is_star word then Some AnyNumber
    else if list_any is_comma word then pair_of (plain_number (before_first is_comma word)) (plain_number (after_first is_comma word))
    else option_map (λ number. Exactly number) (plain_number word)

-- nothing, or a bracket
abbrev pub bracket_of : List Part → Option PlainBracket
bracket_of [] = Some NoBracket
bracket_of (OpenBracket ∷ Run word ∷ CloseBracket ∷ []) = inside word
bracket_of _ = None

-- NUMBER : (NAME NAME ..), and perhaps [BRACKET]
unfoldable pub step_of : List ℕ → Option PlainStep
step_of text = do
  time ← time_of (parts text)
  atom ← atom_of time.1
  bracket ← bracket_of atom.1
  Some (record { at = time.0; name = atom.0.name; args = atom.0.args; bracket = bracket })
