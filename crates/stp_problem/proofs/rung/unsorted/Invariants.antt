use Rattle.stp_problem.proofs.Left.{AreWritten}
use Rattle.stp_problem.proofs.rung.unsorted.Given as goal

abbrev pub invariant-loop-kind : goal.invariant-loop-kind
invariant-loop-kind l = AreWritten l.ancestries l.rungs.items l.kind
