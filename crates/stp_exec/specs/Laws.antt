-- Laws of plans that are placed.
use Rattle.std.specs.Prelude.{◌≡◌, ℕ, true, false, List, All, Ok}
use Rattle.stp_frac.specs.Fractions.{is_below_zero}
use Rattle.stp_schema.specs.Views.{PlainProblem}
use Rattle.stp_plan.specs.Steps.{PlainStep}
use Rattle.stp_exec.specs.Placed.{PlainPlaced, placed_step}
use Rattle.stp_exec.specs.Plans.{HasLowestTerms, IsPlan, is_one_action}
use Rattle.stp_exec.specs.Boxed.{placed_or_fault}

-- what is placed of steps that start from 0 on is a plan, where its times have lowest terms
abbrev pub PlacedStepsArePlans : Type 0
PlacedStepsArePlans = (p : PlainProblem) (plan : List PlainStep) (placed : List PlainPlaced) → placed_or_fault p plan ≡ Ok placed → All (λ s. is_below_zero s.at.top ≡ false) plan → All (λ s. HasLowestTerms s.timed) placed → IsPlan p placed

-- steps with the same name and arguments are of one action
abbrev pub SameWordsAreOneAction : Type 0
SameWordsAreOneAction = (p : PlainProblem) (i j : ℕ) (s t : PlainStep) (x y : PlainPlaced) → placed_step i p s ≡ Ok x → placed_step j p t ≡ Ok y → s.name ≡ t.name → s.args ≡ t.args → is_one_action x y ≡ true

-- and steps of one action have the same name and arguments
abbrev pub OneActionHasSameWords : Type 0
OneActionHasSameWords = (p : PlainProblem) (i j : ℕ) (s t : PlainStep) (x y : PlainPlaced) → placed_step i p s ≡ Ok x → placed_step j p t ≡ Ok y → is_one_action x y ≡ true → (s.name ≡ t.name) × (s.args ≡ t.args)
