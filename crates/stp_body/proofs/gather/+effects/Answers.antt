use Rattle.std.proofs.Common.{sym, arith}
use Rattle.stp_text.proofs.Equations.{view_word}
use Rattle.stp_text.proofs.Items.{views_more, views_end, view_empty, view_listed, view_headed}
use Rattle.stp_refusal.proofs.Reading.{mapped}
use Rattle.stp_body.specs.Effects.{no_effects, adding, and_then}
use Rattle.stp_body.specs.EffectViews.{gathered_of}
use Rattle.stp_refusal.proofs.Gathering.{nothing_said, refused_said, gathers_next, gathers_done}
use Rattle.stp_body.proofs.Reading.{and_then-none, and_then-assoc, effect_word, effect_empty, effect_listed, effect_list, effects_more, effects_end}
use Rattle.stp_body.proofs.gather.+effects.Goals as goal

pub gather-returns-in-Word : goal.gather-returns-in-Word
gather-returns-in-Word t c = rw (c.in-Word.is, view_word, effect_word) (refused_said and_then no_effects and_then-none _ _ _ _ _ c.note.ensures)

pub gather-returns-in_default : goal.gather-returns-in_default
gather-returns-in_default t c =
    rw (view_empty _ _ _ c.in-Items.is c.in_default.len_below, effect_empty) (nothing_said and_then no_effects and_then-none _ _)

pub gather-returns-in_default-head : goal.gather-returns-in_default-head
gather-returns-in_default-head t c =
    rw (view_listed _ _ _ _ _ _ c.in-Items.is c.in-len1-up.len_at_least c.head-item.is c.in_default-head.is, effect_listed)
    (refused_said and_then no_effects and_then-none _ _ _ _ _ c.note-in_default-head.ensures)

pub gather-returns-in_ok-gather_all-in-And : goal.gather-returns-in_ok-gather_all-in-And
gather-returns-in_ok-gather_all-in-And t c =
    rw (view_headed _ _ _ _ _ _ c.in-Items.is c.in-len1-up.len_at_least c.head-item.is c.in-Word-head.is, effect_list, sym c.in-And.ensures)
    c.in_ok-gather_all-in-And.ensures

pub gather-returns-in_ok-gather_not-in-Not : goal.gather-returns-in_ok-gather_not-in-Not
gather-returns-in_ok-gather_not-in-Not t c =
    rw (view_headed _ _ _ _ _ _ c.in-Items.is c.in-len1-up.len_at_least c.head-item.is c.in-Word-head.is, effect_list, sym c.in-Not.ensures)
    c.in_ok-gather_not-in-Not.ensures

pub gather-returns-in_ok-add-in-Atom : goal.gather-returns-in_ok-add-in-Atom
gather-returns-in_ok-add-in-Atom t c =
    rw (view_headed _ _ _ _ _ _ c.in-Items.is c.in-len1-up.len_at_least c.head-item.is c.in-Word-head.is, effect_list, sym c.in-Atom.ensures)
    (mapped (λ atom. and_then (gathered_of c.args.out.now) (adding atom)) _ _ _ _ _ c.in_ok-add-in-Atom.ensures c.in_ok-atom-in-Atom.ensures)

pub gather-returns-in-Unsupported : goal.gather-returns-in-Unsupported
gather-returns-in-Unsupported t c =
    rw (view_headed _ _ _ _ _ _ c.in-Items.is c.in-len1-up.len_at_least c.head-item.is c.in-Word-head.is, effect_list, sym c.in-Unsupported.ensures)
    (refused_said and_then no_effects and_then-none _ _ _ _ _ c.note-in-Unsupported.ensures)

pub gather-returns-in-Malformed : goal.gather-returns-in-Malformed
gather-returns-in-Malformed t c =
    rw (view_headed _ _ _ _ _ _ c.in-Items.is c.in-len1-up.len_at_least c.head-item.is c.in-Word-head.is, effect_list, sym c.in-Malformed.ensures)
    (refused_said and_then no_effects and_then-none _ _ _ _ _ c.note-in-Malformed.ensures)

pub gather_all-loop-item-preserved : goal.gather_all-loop-item-preserved
gather_all-loop-item-preserved t c =
    gathers_next and_then and_then-assoc
    (rw (views_more c.args.items.now c.loop-item.item-index c.item-item.result (omega arith) (sym c.item-item.is), effects_more) at c.loop-item.invariant)
    c.in_ok-gather.ensures

pub gather_all-returns : goal.gather_all-returns
gather_all-returns t c = gathers_done and_then no_effects and_then-none (rw (views_end c.args.items.now c.loop-item.item-index (omega arith), effects_end) at c.loop-item.invariant)
