-- The times that are printed are on their grid: of 1 to 999,999,999 parts, and at most 999,999,999 units.
use Rattle.std.specs.Prelude.{ℕ, ◌≤◌, ◌*◌, List, All, Option, IfSome}
use Rattle.stp_base.specs.declared.limits.TheConstants.{MAX_GRID, MAX_TIME}
use Rattle.stp_happen.specs.declared.fault.Fault.{Fault}
use Rattle.stp_happen.specs.declared.fault.Fault.TheVariants as faults
use Rattle.stp_happen.specs.declared.run.Run.{Run}
use Rattle.stp_happen.specs.Faults.{IsFirstFault}
use Rattle.stp_happen.specs.Runs.{plain_run}
use Rattle.stp_report.specs.declared.answer.Answer.{Answer}
use Rattle.stp_report.specs.declared.answer.Answer.TheVariants as answers
use Rattle.stp_report.specs.declared.answer.Failure.{Failure}

pub record IsGrid (grid : ℕ) : Type 0 where
  pub low : 1 ≤ grid
  pub high : grid ≤ MAX_GRID

abbrev pub IsTime : ℕ → ℕ → Type 0
IsTime grid time = time ≤ MAX_TIME * grid

abbrev pub IsFaultTime : ℕ → Fault → Type 0
IsFaultTime grid (faults.Overlap time first second) = IsTime grid time
IsFaultTime grid (faults.Interference time first second) = IsTime grid time
IsFaultTime grid (faults.Condition time step) = IsTime grid time
IsFaultTime grid (faults.OverAll time step) = IsTime grid time
IsFaultTime grid faults.Goal = Unit {0}

pub record AreWeakTimes (grid : ℕ) (durations : List ℕ) (fault : Fault) : Type 0 where
  pub is_grid : IsGrid grid
  pub durations_within : All (IsTime grid) durations
  pub fault_within : IsFaultTime grid fault

pub record AreTimesOf (grid : ℕ) (f : Failure) : Type 0 where
  pub is_grid : IsGrid grid
  pub last_within : IfSome f.last (IsTime grid)
  pub fault_within : IsFaultTime grid f.fault

-- the times of a failure, where there is one
abbrev pub AreFailureTimes : ℕ → Option Failure → Type 0
AreFailureTimes grid failure = IfSome failure (AreTimesOf grid)

-- what an answer needs that it can be printed: a run's own moments are always within
abbrev pub AreTimes : Answer → Type 0
AreTimes (answers.Strong steps uncertain events grid) = Unit {0}
AreTimes (answers.Weak grid durations fault) = AreWeakTimes grid durations.now fault
AreTimes (answers.Replay run fault) = IfSome fault (IsFaultTime run.now.grid)
AreTimes answers.EmptyPlan = Unit {0}
AreTimes (answers.Unreachable problem task certificate) = Unit {0}
AreTimes answers.BudgetSpent = Unit {0}
AreTimes (answers.Demo number plan spoiled) = AreFailureTimes spoiled.grid spoiled.failure
AreTimes (answers.Refused file code at) = Unit {0}
AreTimes (answers.ReadFault file) = Unit {0}
AreTimes answers.Usage = Unit {0}

-- the first fault of a run comes at a moment of the run
abbrev pub FirstFaultsHaveTimes : Type 0
FirstFaultsHaveTimes = (run : Run) (fault : Fault) → IsFirstFault (plain_run run) fault → IsFaultTime run.grid fault
