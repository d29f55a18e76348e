use Rattle.std.proofs.Common.{arith}
use Rattle.std.proofs.lemmas.List.{drop_more}
use Rattle.stp_refusal.proofs.Reading.{continues_next, continues_done}
use Rattle.stp_text.proofs.Items.{views_head, views_none}
use Rattle.stp_condition.proofs.term.read_terms.Goals as goal

pub returns-in_default : goal.returns-in_default
returns-in_default c =
    rw c.into_bump_slice.ensures (continues_done (rw (drop_more c.args.places.now c.loop-place.place-index 0 (omega arith), views_none c.loop-place.rest.now c.in_default.len_below) at c.loop-place.invariant))

pub loop-place-preserved : goal.loop-place-preserved
loop-place-preserved c =
    rw c.in_ok-push.ensures.items (continues_next (rw (drop_more c.args.places.now c.loop-place.place-index 0 (omega arith), views_head c.loop-place.rest.now c.item-item.result c.in-len1-up.len_at_least c.item-item.is) at c.loop-place.invariant) c.read_term.ensures)
