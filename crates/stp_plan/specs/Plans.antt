-- The plan that a text is, or the one refusal of it.
use Rattle.std.specs.Prelude.{ℕ, ◌+◌, nat_lt, Bool, true, false, if◌then◌else◌, List, [], ◌∷◌, ◌++◌, length, map, slice_get, filter_map, Option, Some, None, unwrap_or, Result, Ok, Err}
use Rattle.stp_base.specs.declared.limits.TheConstants.{MAX_STEPS}
use Rattle.stp_plan.specs.declared.fault.PlanFault.{PlanFault}
use Rattle.stp_plan.specs.declared.fault.PlanFault.TheVariants.{BadLine, TooManySteps}
use Rattle.stp_plan.specs.Lines.{texts_of}
use Rattle.stp_plan.specs.Steps.{PlainStep, step_of}

-- what a line is: empty, a step, or neither
pub data LineKind : Type 0 where
  Empty : LineKind
  AStep : (step : PlainStep) → LineKind
  Bad : LineKind

abbrev pub if_step : Option PlainStep → LineKind
if_step (Some step) = AStep step
if_step None = Bad

-- what a line is that says this text
abbrev pub kind_of : List ℕ → LineKind
kind_of [] = Empty
kind_of (b ∷ bs) = if_step (step_of (b ∷ bs))

abbrev pub is_bad : LineKind → Bool
is_bad Bad = true
is_bad _ = false

abbrev pub is_step : LineKind → Bool
is_step (AStep step) = true
is_step _ = false

abbrev pub step_in : LineKind → Option PlainStep
step_in (AStep step) = Some step
step_in _ = None

-- the numbers of the lines that pass a test, where n is the number of the first line
abbrev pub numbers_of : (LineKind → Bool) → ℕ → List LineKind → List ℕ
numbers_of test n [] = []
numbers_of test n (line ∷ lines) = if test line then n ∷ numbers_of test (n + 1) lines else numbers_of test (n + 1) lines

-- a bad line, if there is one, is why the plan is refused; otherwise a step too many is
abbrev pub unless_bad : Option ℕ → Result (List PlainStep) PlanFault → Result (List PlainStep) PlanFault
unless_bad (Some n) plan = Err (BadLine n)
unless_bad None plan = plan

abbrev pub unless_many : Option ℕ → List PlainStep → Result (List PlainStep) PlanFault
unless_many (Some n) steps = Err (TooManySteps n)
unless_many None steps = Ok steps

-- the steps of these lines, or why they are refused: for the first bad line, or for the line of the 501st step
unfoldable pub plan_in : List LineKind → Result (List PlainStep) PlanFault
plan_in lines =
    unless_bad (slice_get (numbers_of is_bad 1 lines) 0)
    (unless_many (slice_get (numbers_of is_step 1 lines) MAX_STEPS) (filter_map step_in lines))

-- the steps of a text's lines in order, or why the text is refused
unfoldable pub plan_of : List ℕ → Result (List PlainStep) PlanFault
plan_of bytes = plan_in (map kind_of (texts_of bytes))

-- ---- the steps one by one

-- the first 500 steps so far, and the number of the line of the next one
pub record SoFar : Type 0 where
  pub steps : List PlainStep
  pub extra : Option ℕ

-- with the step of a line
abbrev pub with_step : ℕ → PlainStep → SoFar → SoFar
with_step n step so_far =
    if nat_lt (length so_far.steps) MAX_STEPS
    then record so_far { steps = so_far.steps ++ step ∷ [] }
    else record so_far { extra = Some (unwrap_or so_far.extra n) }
