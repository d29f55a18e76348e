use Rattle.std.proofs.Common.{sym, drop, arith, ◌+◌}
use Rattle.stp_text.specs.Tree.{view, views}
use Rattle.stp_text.proofs.Items.{views_more}
use Rattle.stp_schema.specs.Known.{known}
use Rattle.stp_problem.specs.Facts.{nothing, item_read, items_read}
use Rattle.stp_problem.specs.Views.{state_of}
use Rattle.stp_problem.proofs.Going.{goes_next}
use Rattle.stp_problem.proofs.facts.read_facts.Goals as goal

pub loop-item-preserved : goal.loop-item-preserved
loop-item-preserved c = record {
  read =
      goes_next (item_read (known c.args.declared.now c.args.objects.now.rows.now) (state_of c.loop-item.found.initial c.loop-item.found.values) (view c.item-item.result)) (λ state. items_read (known c.args.declared.now c.args.objects.now.rows.now) state (views (drop (c.loop-item.item-index + 1) c.args.items.now))) (items_read (known c.args.declared.now c.args.objects.now.rows.now) nothing (views c.args.items.now))
      (rw (views_more c.args.items.now c.loop-item.item-index c.item-item.result (omega arith) (sym c.item-item.is)) at c.loop-item.invariant.read)
      c.in_ok-read_item.ensures.read;
  places = c.in_ok-read_item.ensures.places;
}
