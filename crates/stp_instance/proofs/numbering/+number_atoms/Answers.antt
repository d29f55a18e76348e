use Rattle.std.proofs.Common.{arith}
use Rattle.stp_instance.specs.Numbered.{fluent_atoms, is_fluent, with_atoms}
use Rattle.stp_instance.specs.Views.{claim}
use Rattle.stp_instance.proofs.Gathered.{grown_again, numbered_more}
use Rattle.stp_instance.proofs.numbering.+number_atoms.Goals as goal

pub loop-member-preserved : goal.loop-member-preserved
loop-member-preserved t c = record {
  atoms = numbered_more (is_fluent c.args.fluent.now) c.in-Every.members.now c.loop-member.member-index c.member-item.result c.loop-member.table _ (with_atoms c.args.table.now (fluent_atoms (is_fluent c.args.fluent.now) (claim c.args.ground.now))) (omega arith) c.member-item.is c.in_ok-number_atoms-in-Every.ensures.atoms c.loop-member.invariant.atoms;
  grown = grown_again c.args.table.now c.loop-member.table c.number_atoms-in-loop-member.new.table c.loop-member.invariant.grown c.in_ok-number_atoms-in-Every.ensures.grown;
}
