-- Runs under durations that a text chooses.
use Rattle.std.specs.Prelude.{◌≡◌, ℕ, ◌*◌, List, map, Option, Some, None, MatchOption, Result, Ok, Err}
use Rattle.std.specs.Borrow.{Bor}
use Rattle.stp_frac.specs.Fractions.{Fraction}
use Rattle.stp_happen.specs.Plain.{PlainRun, Executes}
use Rattle.stp_happen.specs.Faults.{IsFirstFault}
use Rattle.stp_happen.specs.Boxes.{PlainBox, run_under, finer_box}
use Rattle.stp_happen.specs.Orders.{IsInSomeOrder}
use Rattle.stp_happen.specs.Runs.{plain_run}
use Rattle.stp_happen.specs.declared.fault.Fault.{Fault}
use Rattle.stp_happen.specs.declared.run.Run.{Run}
use Rattle.stp_refusal.specs.declared.code.Code.{Code}
use Rattle.stp_refusal.specs.declared.code.Code.TheVariants.{V01}
use Rattle.stp_exec.specs.Lists.{durations_in}
use Rattle.stp_exec.specs.Timed.{PlainTimes, count_of}
use Rattle.stp_exec.specs.Fitting.{judge_list, grid_with}
use Rattle.stp_report.specs.declared.answer.Answer.{Answer}
use Rattle.stp_report.specs.declared.answer.Answer.TheVariants as answers
use Rattle.stp_report.specs.declared.answer.FileName.TheVariants as files
use Rattle.stp_cli.specs.declared.refusal.CaseFault.{CaseFault}
use Rattle.stp_base.specs.Results.{◌>>=◌}
use Rattle.stp_cli.specs.Refusals.{refused_at, IsOrRefused}
use Rattle.stp_cli.specs.Case.{PlainCase, times_of, grid_of, box_of}

-- a text that is no list of durations
abbrev pub bad_list : CaseFault
bad_list = refused_at files.Durations V01 0

abbrev pub list_read : Option (List Fraction) → Result (List Fraction) CaseFault
list_read None = Err bad_list
list_read (Some durations) = Ok durations

abbrev pub list_fits : Option (Code × ℕ) → List Fraction → Result (List Fraction) CaseFault
list_fits None durations = Ok durations
list_fits (Some fault) durations = Err (refused_at files.Durations fault.0 fault.1)

-- the durations that a text chooses for the uncertain ones of these steps, and the moments for the events whose moment is
-- chosen, or its first refusal
abbrev pub durations_of : PlainTimes → List ℕ → Result (List Fraction) CaseFault
durations_of times text = do
  durations ← list_read (durations_in text)
  list_fits (judge_list times durations) durations

-- a run without a fault executes, and otherwise this is its first fault
abbrev pub IsJudgedBy : PlainRun → Option Fault → Type 0
IsJudgedBy run fault = MatchOption fault (Executes run) (IsFirstFault run)

-- the answer shows the run of a box under durations on a grid, in some order, and its first fault if it has one
pub record IsRunWith (grid : ℕ) (box : PlainBox) (durations : List ℕ) (answer : Answer) : Type 0 where
  pub run : Bor Run
  pub fault : Option Fault
  pub on_grid : run.now.grid ≡ grid
  pub same : IsInSomeOrder (plain_run run.now) (run_under box durations)
  pub judged : IsJudgedBy (run_under box durations) fault
  pub answered : answer ≡ answers.Replay run fault

-- the run under these durations, on the least grid on which both the plan and they lie, which is finer than the
-- base grid by a factor
pub record IsReplay (c : PlainCase) (durations : List Fraction) (answer : Answer) : Type 0 where
  pub factor : ℕ
  pub finer : grid_of c * factor ≡ grid_with (times_of c) durations
  pub shown :
      let grid = grid_with (times_of c) durations in
      IsRunWith grid (finer_box factor (box_of c)) (map (count_of grid) durations) answer

-- the answer to `replay` on a case and a list of durations
abbrev pub IsReplayedCase : List ℕ → PlainCase → Answer → Type 0
IsReplayedCase list c answer = IsOrRefused (IsReplay c) (durations_of (times_of c) list) answer
