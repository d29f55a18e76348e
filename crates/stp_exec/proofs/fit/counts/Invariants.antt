-- The counts so far and those of the durations that are left are those of all.
use Rattle.stp_exec.proofs.Fits.{AreCounts}
use Rattle.stp_exec.proofs.fit.counts.Given as goal

abbrev pub invariant-loop-duration : goal.invariant-loop-duration
invariant-loop-duration l = AreCounts l.counts l.grid l.duration-index l.durations
