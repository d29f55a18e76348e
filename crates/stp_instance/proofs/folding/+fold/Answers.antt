use Rattle.stp_instance.specs.Numbered.{is_fluent, is_in}
use Rattle.stp_instance.proofs.FoldedMembers.{folded_every, folded_any}
use Rattle.stp_instance.proofs.folding.+fold.Goals as goal

pub fold_ground-returns-in_ok-cond-in-Every : goal.fold_ground-returns-in_ok-cond-in-Every
fold_ground-returns-in_ok-cond-in-Every t c = folded_every (is_fluent c.args.fluent.now) (is_in c.args.facts.now) c.args.table.now c.args.ground.now c.in-Every.members c.in_ok-parts-in-Every.parts.items c.in_ok-cond-in-Every.cond c.in-Every.is c.in_ok-parts-in-Every.ensures c.in_ok-cond-in-Every.ensures

pub fold_ground-returns-in_ok-cond-in-Any : goal.fold_ground-returns-in_ok-cond-in-Any
fold_ground-returns-in_ok-cond-in-Any t c = folded_any (is_fluent c.args.fluent.now) (is_in c.args.facts.now) c.args.table.now c.args.ground.now c.in-Any.members c.in_ok-parts-in-Any.parts.items c.in_ok-cond-in-Any.cond c.in-Any.is c.in_ok-parts-in-Any.ensures c.in_ok-cond-in-Any.ensures
