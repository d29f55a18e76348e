-- Where there is a certificate for the task of a problem, no plan of the problem executes.
use Rattle.std.specs.Prelude.{◌≡◌, ℕ, ◌<◌, true, List, All, Ok}
use Rattle.std.specs.List.{list_all}
use Rattle.stp_schema.specs.Formula.{nothing}
use Rattle.stp_schema.specs.Schemas.{PlainSchema, Instant}
use Rattle.stp_schema.specs.Views.{PlainProblem}
use Rattle.stp_task.specs.Certificates.{IsCertificate, Pair}
use Rattle.stp_task.specs.Tasks.{PlainTask}
use Rattle.stp_kept.specs.KeptTasks.{task_or_fault}
use Rattle.stp_happen.specs.Boxes.{IsVector, PlainBox, finer_box, run_under}
use Rattle.stp_happen.specs.Plain.{Executes}
use Rattle.stp_exec.specs.GridLaws.{is_proper_event, lie_on}
use Rattle.stp_exec.specs.Placed.{PlainPlaced, times_of}
use Rattle.stp_exec.specs.Plans.{IsPlan, IsStrongPlan, box_of_plan, box_on}

-- ---- what is asked of problems

-- an action that takes no time has a condition at its start alone
abbrev pub HasPlainEnd : PlainSchema → Type 0
HasPlainEnd s = s.timing ≡ Instant → (s.over_all ≡ nothing) × (s.end_cond ≡ nothing)

-- and so has each one of a problem
abbrev pub HasPlainSimpleActions : PlainProblem → Type 0
HasPlainSimpleActions p = All HasPlainEnd p.domain.schemas

-- the times of a problem's events have denominators from 1 on
abbrev pub HasProperEvents : PlainProblem → Type 0
HasProperEvents p = list_all is_proper_event p.timed ≡ true

-- a problem that is grounded to a task, and a pair that is a certificate of the task
pub record IsUnreachable (p : PlainProblem) (task : PlainTask) (pair : Pair) : Type 0 where
  pub simple : HasPlainSimpleActions p
  pub grounded : task_or_fault p ≡ Ok task
  pub certificate : IsCertificate task pair

-- ---- the law

-- no run of a box executes on any finer grid, whatever the environment chooses
abbrev pub NeverExecutes : PlainBox → Type 0
NeverExecutes box = (k : ℕ) → 0 < k → (durations : List ℕ) → IsVector (finer_box k box).owners durations → Executes (run_under (finer_box k box) durations) → ⊥

-- where there is a certificate, a plan's box never executes on a grid on which all of its times lie
abbrev pub NoRunOnAGrid : Type 0
NoRunOnAGrid = (p : PlainProblem) (task : PlainTask) (pair : Pair) → IsUnreachable p task pair
    → (steps : List PlainPlaced) → IsPlan p steps → (grid : ℕ) → 0 < grid → lie_on grid (times_of p steps) ≡ true → NeverExecutes (box_on grid p steps)

-- nor does its box on the base grid
abbrev pub NoRunOfThePlan : Type 0
NoRunOfThePlan = (p : PlainProblem) (task : PlainTask) (pair : Pair) → IsUnreachable p task pair → HasProperEvents p
    → (steps : List PlainPlaced) → IsPlan p steps → NeverExecutes (box_of_plan p steps)

-- in particular no plan is strong
abbrev pub NoPlanIsStrong : Type 0
NoPlanIsStrong = (p : PlainProblem) (task : PlainTask) (pair : Pair) → IsUnreachable p task pair → HasProperEvents p
    → (steps : List PlainPlaced) → IsPlan p steps → IsStrongPlan p steps → ⊥

-- where there is a certificate, no run of any plan executes
pub record NoPlanRuns : Type 0 where
  pub on_grids : NoRunOnAGrid
  pub of_plans : NoRunOfThePlan
  pub not_strong : NoPlanIsStrong
