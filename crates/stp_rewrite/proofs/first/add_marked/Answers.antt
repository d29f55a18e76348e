use Rattle.stp_cond.specs.Truth.{state_of_row}
use Rattle.stp_rewrite.proofs.Numbers.{value_more}
use Rattle.stp_rewrite.proofs.first.add_marked.Goals as goal

pub loop-number-preserved : goal.loop-number-preserved
loop-number-preserved c =
    value_more (state_of_row c.args.row.now) (state_of_row c.args.marked.now) c.loop-number.number c.args.values.now.items c.loop-number.values.items c.add_if.new.values.items c.get.result c.get-in-loop-number.result
    c.get.ensures c.get-in-loop-number.ensures c.loop-number.invariant c.in_ok-add_if.ensures
