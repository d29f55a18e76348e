use Rattle.std.proofs.Common.{sym, arith}
use Rattle.stp_text.proofs.Equations.{view_word}
use Rattle.stp_text.proofs.Items.{views_more, views_end, view_empty, view_listed, view_headed}
use Rattle.stp_body.specs.TimedEffects.{no_timed_effects, timed_and_then}
use Rattle.stp_refusal.proofs.Gathering.{nothing_said, refused_said, gathers_next, gathers_done}
use Rattle.stp_body.proofs.Reading.{timed_and_then-none, timed_and_then-assoc, timed_word, timed_empty, timed_listed, timed_list, timed_more, timed_end}
use Rattle.stp_body.proofs.timed.+timed_effects.Goals as goal

pub gather_timed-returns-in-Word : goal.gather_timed-returns-in-Word
gather_timed-returns-in-Word t c = rw (c.in-Word.is, view_word, timed_word) (refused_said timed_and_then no_timed_effects timed_and_then-none _ _ _ _ _ c.note.ensures)

pub gather_timed-returns-in_default : goal.gather_timed-returns-in_default
gather_timed-returns-in_default t c =
    rw (view_empty _ _ _ c.in-Items.is c.in_default.len_below, timed_empty) (nothing_said timed_and_then no_timed_effects timed_and_then-none _ _)

pub gather_timed-returns-in_default-head : goal.gather_timed-returns-in_default-head
gather_timed-returns-in_default-head t c =
    rw (view_listed _ _ _ _ _ _ c.in-Items.is c.in-len1-up.len_at_least c.head-item.is c.in_default-head.is, timed_listed)
    (refused_said timed_and_then no_timed_effects timed_and_then-none _ _ _ _ _ c.note-in_default-head.ensures)

pub gather_timed-returns-in_ok-gather_all_timed-in-And : goal.gather_timed-returns-in_ok-gather_all_timed-in-And
gather_timed-returns-in_ok-gather_all_timed-in-And t c =
    rw (view_headed _ _ _ _ _ _ c.in-Items.is c.in-len1-up.len_at_least c.head-item.is c.in-Word-head.is, timed_list, sym c.in-And.ensures)
    c.in_ok-gather_all_timed-in-And.ensures

pub gather_timed-returns-in-Unsupported : goal.gather_timed-returns-in-Unsupported
gather_timed-returns-in-Unsupported t c =
    rw (view_headed _ _ _ _ _ _ c.in-Items.is c.in-len1-up.len_at_least c.head-item.is c.in-Word-head.is, timed_list, sym c.in-Unsupported.ensures)
    (refused_said timed_and_then no_timed_effects timed_and_then-none _ _ _ _ _ c.note-in-Unsupported.ensures)

pub gather_timed-returns-in-Malformed : goal.gather_timed-returns-in-Malformed
gather_timed-returns-in-Malformed t c =
    rw (view_headed _ _ _ _ _ _ c.in-Items.is c.in-len1-up.len_at_least c.head-item.is c.in-Word-head.is, timed_list, sym c.in-Malformed.ensures)
    (refused_said timed_and_then no_timed_effects timed_and_then-none _ _ _ _ _ c.note-in-Malformed.ensures)

pub gather_timed-returns-in_ok-gather_at-in-Atom : goal.gather_timed-returns-in_ok-gather_at-in-Atom
gather_timed-returns-in_ok-gather_at-in-Atom t c =
    rw (view_headed _ _ _ _ _ _ c.in-Items.is c.in-len1-up.len_at_least c.head-item.is c.in-Word-head.is, timed_list, sym c.in-Atom.ensures)
    c.in_ok-gather_at-in-Atom.ensures

pub gather_timed-returns-in-Not : goal.gather_timed-returns-in-Not
gather_timed-returns-in-Not t c =
    rw (view_headed _ _ _ _ _ _ c.in-Items.is c.in-len1-up.len_at_least c.head-item.is c.in-Word-head.is, timed_list, sym c.in-Not.ensures)
    (refused_said timed_and_then no_timed_effects timed_and_then-none _ _ _ _ _ c.note-in-Not.ensures)

pub gather_all_timed-loop-item-preserved : goal.gather_all_timed-loop-item-preserved
gather_all_timed-loop-item-preserved t c =
    gathers_next timed_and_then timed_and_then-assoc
    (rw (views_more c.args.items.now c.loop-item.item-index c.item-item.result (omega arith) (sym c.item-item.is), timed_more) at c.loop-item.invariant)
    c.in_ok-gather_timed.ensures

pub gather_all_timed-returns : goal.gather_all_timed-returns
gather_all_timed-returns t c = gathers_done timed_and_then no_timed_effects timed_and_then-none (rw (views_end c.args.items.now c.loop-item.item-index (omega arith), timed_end) at c.loop-item.invariant)
