-- The grid so far and the denominators that are left have the common multiple of all.
use Rattle.std.proofs.Common.{◌≤◌}
use Rattle.stp_exec.proofs.Fits.{IsMet}
use Rattle.stp_exec.proofs.fit.join_all.Given as goal

abbrev pub invariant-loop-duration : goal.invariant-loop-duration
invariant-loop-duration l = record {
  met : IsMet l.fn.grid l.joint l.duration-index l.durations;
  low : 1 ≤ l.joint;
  high : l.joint ≤ 999999999;
}
