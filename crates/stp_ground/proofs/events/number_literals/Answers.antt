use Rattle.std.proofs.Common.{arith, map}
use Rattle.stp_schema.specs.Timed.{literal_of}
use Rattle.stp_instance.specs.Numbered.{with_atoms}
use Rattle.stp_ground.specs.Problems.{atom_of_literal}
use Rattle.stp_ground.proofs.Firsts.{one_more}
use Rattle.stp_ground.proofs.Grown.{grown_more, grown_by}
use Rattle.stp_ground.proofs.events.number_literals.Goals as goal

pub loop-literal-preserved : goal.loop-literal-preserved
loop-literal-preserved c = record {
  atoms = one_more literal_of atom_of_literal c.args.literals.now c.loop-literal.literal-index _ c.loop-literal.table _ (with_atoms c.args.table.now (map atom_of_literal (map literal_of c.args.literals.now))) (omega arith) c.in_ok-number.ensures.atoms c.loop-literal.invariant.atoms;
  grown = grown_more c.args.table.now c.loop-literal.table c.number.new.self c.loop-literal.invariant.grown (grown_by c.loop-literal.table c.number.new.self _ c.in_ok-number.ensures.atoms);
}
