use Rattle.std.proofs.Common.{sym, drop, arith, ◌+◌}
use Rattle.stp_text.specs.Tree.{view, views}
use Rattle.stp_text.proofs.Items.{views_more}
use Rattle.stp_schema.specs.Known.{known}
use Rattle.stp_problem.specs.TimedItems.{timed_item_read, timed_items_read, timed_read}
use Rattle.stp_problem.specs.TimedViews.{timed_items_of}
use Rattle.stp_problem.proofs.Going.{goes_next}
use Rattle.stp_problem.proofs.timed.read_timed.Goals as goal

pub loop-item-preserved : goal.loop-item-preserved
loop-item-preserved c =
    let k = known c.args.declared.now c.args.objects.now.rows.now in
    goes_next (timed_item_read k (timed_items_of c.loop-item.out) (view c.item-item.result)) (λ items. timed_items_read k items (views (drop (c.loop-item.item-index + 1) c.args.items.now))) (timed_read k (views c.args.items.now))
    (rw (views_more c.args.items.now c.loop-item.item-index c.item-item.result (omega arith) (sym c.item-item.is)) at c.loop-item.invariant)
    c.in_ok-read_item.ensures
