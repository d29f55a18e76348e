use Rattle.std.proofs.Common.{◌∙◌, arith}
use Rattle.stp_cond.specs.Truth.{state_of_row}
use Rattle.stp_check.proofs.Carried.{ended_more, carried_more}
use Rattle.stp_check.proofs.carrying.carry.Goals as goal

pub loop-place-preserved : goal.loop-place-preserved
loop-place-preserved c = record {
  len = c.apply.ensures.len ∙ c.loop-place.invariant.len;
  ended = ended_more c.args.ordered.now c.args.start c.loop-place.place c.args.time c.index-ordered-place.result c.index-ordered-place.is (omega arith) c.loop-place.invariant.ended;
  state = λ first h a.
      carried_more c.args.ordered.now c.loop-place.place c.index-ordered-place.result (omega arith) c.index-ordered-place.is (state_of_row c.loop-place.row) (state_of_row c.apply.new.row) first a (c.apply.ensures.state a) (c.loop-place.invariant.state first h a);
}
