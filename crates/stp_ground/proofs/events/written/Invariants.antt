-- The atoms so far, and then those of the literals that are left, are all.
use Rattle.stp_instance.specs.Effects.{written_atoms}
use Rattle.stp_ground.proofs.LiteralKinds.{AreWritten}
use Rattle.stp_ground.proofs.events.written.Given as goal

abbrev pub invariant-loop-literal : goal.invariant-loop-literal
invariant-loop-literal l = AreWritten l.adds (written_atoms l.out.items) l.literal-index l.literals
