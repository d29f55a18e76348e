-- Laws of plan texts.
use Rattle.std.specs.Prelude.{◌≡◌, ℕ, ◌≤◌, unsigned_abs, true, false, List, [], ◌∷◌, length, All, Some, Ok}
use Rattle.std.specs.List.{list_all}
use Rattle.stp_base.specs.declared.limits.TheConstants.{MAX_GRID, MAX_STEPS, MAX_TIME}
use Rattle.stp_frac.specs.Fractions.{Fraction, is_below_zero}
use Rattle.stp_frac.specs.Laws.{CanBeSpelled}
use Rattle.stp_text.specs.Names.{is_name}
use Rattle.stp_plan.specs.Steps.{PlainBracket, NoBracket, Exactly, AnyNumber, Between, PlainStep, step_of}
use Rattle.stp_plan.specs.Plans.{plan_of}
use Rattle.stp_plan.specs.Printing.{plan_text}
use Rattle.stp_plan.specs.Parts.{Part, parts}
use Rattle.stp_plan.specs.Spelling.{Spells, IsSpelling}

-- the numbers of a bracket
abbrev pub bracket_numbers : PlainBracket → List Fraction
bracket_numbers NoBracket = []
bracket_numbers (Exactly number) = number ∷ []
bracket_numbers AnyNumber = []
bracket_numbers (Between low high) = low ∷ high ∷ []

-- the numbers of a step
abbrev pub numbers_in : PlainStep → List Fraction
numbers_in s = s.at ∷ bracket_numbers s.bracket

-- the names of a step
abbrev pub names_in : PlainStep → List (List ℕ)
names_in s = s.name ∷ s.args

-- a number from 0 on
abbrev pub IsAbove : Fraction → Type 0
IsAbove f = is_below_zero f.top ≡ false

-- one that keeps the limits of digits
abbrev pub IsShort : Fraction → Type 0
IsShort f = IsAbove f × (f.bottom ≤ MAX_GRID) × (f.bottom ≡ 1 → unsigned_abs f.top ≤ MAX_TIME)

-- one that has lowest terms besides
abbrev pub IsSpellable : Fraction → Type 0
IsSpellable f = IsAbove f × CanBeSpelled f

-- a step of lower case names, and of such numbers
pub record IsLawful (IsNumber : Fraction → Type 0) (s : PlainStep) : Type 0 where
  pub names : list_all is_name (names_in s) ≡ true
  pub numbers : All IsNumber (numbers_in s)

-- at most 500 such steps
pub record IsLawfulPlan (IsNumber : Fraction → Type 0) (plan : List PlainStep) : Type 0 where
  pub few : length plan ≤ MAX_STEPS
  pub steps : All (IsLawful IsNumber) plan

-- a plan that was read is one of numbers from 0 on
abbrev pub ReadPlansAreLawful : Type 0
ReadPlansAreLawful = (bytes : List ℕ) (plan : List PlainStep) → plan_of bytes ≡ Ok plan → IsLawfulPlan IsAbove plan

-- a printed plan of numbers that can be spelled is read again
abbrev pub PrintedPlansAreReadAgain : Type 0
PrintedPlansAreReadAgain = (plan : List PlainStep) → IsLawfulPlan IsSpellable plan → plan_of (plan_text plan) ≡ Ok plan

-- a text that spells parts has these parts, whatever white bytes stand between them
abbrev pub SpelledPartsAreRead : Type 0
SpelledPartsAreRead = (ps : List Part) (text : List ℕ) → Spells ps text → parts text ≡ ps

-- a text that spells a step is that step
abbrev pub SpelledStepsAreRead : Type 0
SpelledStepsAreRead = (s : PlainStep) (text : List ℕ) → IsSpelling s text → step_of text ≡ Some s
