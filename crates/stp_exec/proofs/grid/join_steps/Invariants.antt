-- The grid so far and that of the steps that are left are that of all.
use Rattle.std.proofs.Common.{◌≤◌}
use Rattle.stp_exec.specs.Timed.{plain_timed, denominators}
use Rattle.stp_exec.proofs.Joining.{IsJoined}
use Rattle.stp_exec.proofs.grid.join_steps.Given as goal

abbrev pub invariant-loop-step : goal.invariant-loop-step
invariant-loop-step l = record {
  joined : IsJoined plain_timed denominators l.fn.grid l.joint l.step-index l.steps;
  low : 1 ≤ l.joint;
  high : l.joint ≤ 999999999;
}
