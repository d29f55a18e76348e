use Rattle.std.proofs.Common.{◌∙◌, sym, arith}
use Rattle.stp_text.proofs.Equations.{view_word, view_items}
use Rattle.stp_text.proofs.Items.{views_none, views_head, views_more, views_end}
use Rattle.stp_refusal.proofs.Gathering.{nothing_said, refused_said, gathers_next, gathers_done}
use Rattle.stp_condition.specs.TimedConditions.{no_parts, and_then}
use Rattle.stp_condition.proofs.ReadingTimedConditions.{and_then-none, and_then-assoc, parts_word, parts_empty, parts_listed, parts_list, parts_more, parts_end}
use Rattle.stp_condition.proofs.gather.+timed_conditions.Goals as goal

pub gather-returns-in-Word-clause-value : goal.gather-returns-in-Word-clause-value
gather-returns-in-Word-clause-value t c =
    rw (c.in-Word.is, view_word, parts_word) (refused_said and_then no_parts and_then-none _ _ _ _ _ c.note.ensures)

pub gather-returns-in_default-clause-value : goal.gather-returns-in_default-clause-value
gather-returns-in_default-clause-value t c =
    rw (c.in-Items.is, view_items, views_none c.in-Items.items.now c.in_default.len_below, parts_empty) (nothing_said and_then no_parts and_then-none _ _)

pub gather-returns-in_default-head-clause-value : goal.gather-returns-in_default-head-clause-value
gather-returns-in_default-head-clause-value t c =
    rw (c.in-Items.is, view_items, views_head c.in-Items.items.now c.head-item.result c.in-len1-up.len_at_least c.head-item.is, c.in_default-head.is, view_items, parts_listed)
    (refused_said and_then no_parts and_then-none _ _ _ _ _ c.note-in_default-head.ensures)

pub gather-returns-in_ok-gather_all-in-And-clause-value : goal.gather-returns-in_ok-gather_all-in-And-clause-value
gather-returns-in_ok-gather_all-in-And-clause-value t c =
    rw (c.in-Items.is, view_items, views_head c.in-Items.items.now c.head-item.result c.in-len1-up.len_at_least c.head-item.is, c.in-Word-head.is, view_word, parts_list, sym c.in-And.ensures)
    c.in_ok-gather_all-in-And.ensures.value

pub gather-returns-in_ok-gather_part-in-Timed-clause-value : goal.gather-returns-in_ok-gather_part-in-Timed-clause-value
gather-returns-in_ok-gather_part-in-Timed-clause-value t c =
    rw (c.in-Items.is, view_items, views_head c.in-Items.items.now c.head-item.result c.in-len1-up.len_at_least c.head-item.is, c.in-Word-head.is, view_word, parts_list, sym c.in-Timed.ensures)
    c.in_ok-gather_part-in-Timed.ensures.value

pub gather-returns-in-Equality-clause-value : goal.gather-returns-in-Equality-clause-value
gather-returns-in-Equality-clause-value t c =
    rw (c.in-Items.is, view_items, views_head c.in-Items.items.now c.head-item.result c.in-len1-up.len_at_least c.head-item.is, c.in-Word-head.is, view_word, parts_list, sym c.in-Equality.ensures)
    c.refuse_equality.ensures

pub gather-returns-in-Unsupported-clause-value : goal.gather-returns-in-Unsupported-clause-value
gather-returns-in-Unsupported-clause-value t c =
    rw (c.in-Items.is, view_items, views_head c.in-Items.items.now c.head-item.result c.in-len1-up.len_at_least c.head-item.is, c.in-Word-head.is, view_word, parts_list, sym c.in-Unsupported.ensures)
    (refused_said and_then no_parts and_then-none _ _ _ _ _ c.note-in-Unsupported.ensures)

pub gather-returns-in-Malformed-clause-value : goal.gather-returns-in-Malformed-clause-value
gather-returns-in-Malformed-clause-value t c =
    rw (c.in-Items.is, view_items, views_head c.in-Items.items.now c.head-item.result c.in-len1-up.len_at_least c.head-item.is, c.in-Word-head.is, view_word, parts_list, sym c.in-Malformed.ensures)
    (refused_said and_then no_parts and_then-none _ _ _ _ _ c.note-in-Malformed.ensures)

pub gather_all-loop-item-preserved : goal.gather_all-loop-item-preserved
gather_all-loop-item-preserved t c = record {
  value = rw (c.in_ok-gather.ensures.kept)
      (gathers_next and_then and_then-assoc
      (rw (views_more c.args.items.now c.loop-item.item-index c.item-item.result (omega arith) (sym c.item-item.is), parts_more) at c.loop-item.invariant.value)
      c.in_ok-gather.ensures.value);
  kept = c.in_ok-gather.ensures.kept ∙ c.loop-item.invariant.kept;
}

pub gather_all-returns-clause-value : goal.gather_all-returns-clause-value
gather_all-returns-clause-value t c = gathers_done and_then no_parts and_then-none (rw (views_end c.args.items.now c.loop-item.item-index (omega arith), parts_end) at c.loop-item.invariant.value)
