-- What is right to answer to a demo: what `check` finds of its plan, and of its spoiled plan.
use Rattle.std.specs.Prelude.{◌≡◌, ℕ, ◌-◌, true, false, List, length, slice_get, Option, MatchOption, Result, Ok}
use Rattle.stp_happen.specs.Boxes.{PlainBox, IsStrong, run_under}
use Rattle.stp_happen.specs.Faults.{IsFirstFault}
use Rattle.stp_happen.specs.LeastFailure.{IsLeastFailure}
use Rattle.stp_schema.specs.Views.{PlainProblem}
use Rattle.stp_exec.specs.Placed.{PlainPlaced}
use Rattle.stp_demo.specs.Domain.{domain_text}
use Rattle.stp_demo.specs.Problem.{problem_text}
use Rattle.stp_demo.specs.Plan.{plan_text}
use Rattle.stp_report.specs.declared.answer.Answer.{Answer}
use Rattle.stp_report.specs.declared.answer.Answer.TheVariants as answers
use Rattle.stp_report.specs.declared.answer.Failure.{Failure}
use Rattle.stp_report.specs.declared.answer.Summary.{Summary}
use Rattle.stp_base.specs.Results.{◌>>=◌}
use Rattle.stp_cli.specs.declared.refusal.CaseFault.{CaseFault}
use Rattle.stp_cli.specs.Refusals.{IsOrRefused}
use Rattle.stp_cli.specs.Case.{PlainCase, case_with, case_of, grid_of, box_of}
use Rattle.stp_cli.specs.Verdict.{step_count, uncertain_count}

-- ---- what is told of a plan

-- a box is not strong, and this is the last entry of its least failure and the first fault of that run
pub record IsFailing (box : PlainBox) (f : Failure) : Type 0 where
  pub durations : List ℕ
  pub weak : IsStrong box → ⊥
  pub least : IsLeastFailure box durations
  pub last : f.last ≡ slice_get durations (length durations - 1)
  pub first : IsFirstFault (run_under box durations) f.fault

-- a box fails so, or is strong
abbrev pub IsJudged : PlainBox → Option Failure → Type 0
IsJudged box failure = MatchOption failure (IsStrong box) (IsFailing box)

pub record IsSummary (grid : ℕ) (box : PlainBox) (s : Summary) : Type 0 where
  pub steps : s.steps ≡ step_count box
  pub uncertain : s.uncertain ≡ uncertain_count box
  pub on_grid : s.grid ≡ grid
  pub judged : IsJudged box s.failure

-- the steps that were read in a problem, and what is told of them
pub record IsToldOf (problem : PlainProblem) (read : Result (List PlainPlaced) CaseFault) (s : Summary) : Type 0 where
  pub steps : List PlainPlaced
  pub are_read : read ≡ Ok steps
  pub told : IsSummary (grid_of (case_with problem steps)) (box_of (case_with problem steps)) s

-- ---- demos

-- the case with a plan, and that with a spoiled plan
pub record TwoCases : Type 0 where
  pub plan : PlainCase
  pub spoiled : PlainCase

-- the cases of two plans for one problem, or the first refusal
unfoldable pub cases_of : List ℕ → List ℕ → List ℕ → List ℕ → Result TwoCases CaseFault
cases_of domain problem plan spoiled = do
  first ← case_of domain problem plan
  second ← case_of domain problem spoiled
  Ok (record { plan = first; spoiled = second })

-- the cases of the demo of so many rovers, or the first refusal of its texts
unfoldable pub demo_cases : ℕ → Result TwoCases CaseFault
demo_cases number = cases_of domain_text (problem_text number) (plan_text false number) (plan_text true number)

-- the answer tells of both
pub record IsShown (number : ℕ) (cases : TwoCases) (answer : Answer) : Type 0 where
  pub plan : Summary
  pub spoiled : Summary
  pub of_plan : IsSummary (grid_of cases.plan) (box_of cases.plan) plan
  pub of_spoiled : IsSummary (grid_of cases.spoiled) (box_of cases.spoiled) spoiled
  pub answered : answer ≡ answers.Demo number plan spoiled

-- the first refusal, or what is told of both plans
abbrev pub IsDemo : ℕ → Answer → Type 0
IsDemo number answer = IsOrRefused (IsShown number) (demo_cases number) answer
