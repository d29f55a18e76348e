use Rattle.stp_types.specs.Loops.{IsVisited}
use Rattle.stp_types.proofs.loops.looped.Given as goal

abbrev pub invariant-loop-start : goal.invariant-loop-start
invariant-loop-start l = IsVisited l.parents l.start l.marks.items l.looped.items
