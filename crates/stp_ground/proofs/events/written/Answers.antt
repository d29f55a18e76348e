use Rattle.std.proofs.Common.{arith, sym, ap, ◌∙◌}
use Rattle.stp_instance.specs.Effects.{written_atoms}
use Rattle.stp_ground.proofs.LiteralKinds.{written_next, written_same, written_all}
use Rattle.stp_ground.proofs.events.written.Goals as goal

pub returns : goal.returns
returns c = written_all c.args.adds (written_atoms c.loop-literal.out.items) c.loop-literal.literal-index c.args.literals.now (omega arith) c.loop-literal.invariant
