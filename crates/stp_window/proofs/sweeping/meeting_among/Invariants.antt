-- The mentions so far have passed.
use Rattle.std.proofs.Common.{ℕ, ◌<◌}
use Rattle.stp_window.specs.Sweep.{PassesFrom}
use Rattle.stp_window.proofs.sweeping.meeting_among.Given as goal

abbrev pub invariant-loop-start : goal.invariant-loop-start
invariant-loop-start l = (x : ℕ) → x < l.start → PassesFrom l.ordered l.mentions x
