-- All durations so far are within their bounds.
use Rattle.stp_exec.proofs.Fits.{IsSought}
use Rattle.stp_exec.proofs.fit.first_outside.Given as goal

abbrev pub invariant-loop-index : goal.invariant-loop-index
invariant-loop-index l = IsSought l.index l.bounds l.durations
