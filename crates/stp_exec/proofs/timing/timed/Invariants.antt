-- The times so far are those of the steps so far.
use Rattle.std.proofs.Common.{◌≡◌, take}
use Rattle.stp_exec.proofs.Limits.{timed_of}
use Rattle.stp_exec.proofs.timing.timed.Given as goal

abbrev pub invariant-loop-step : goal.invariant-loop-step
invariant-loop-step l = l.times.items ≡ timed_of (take l.step-index l.placed)
