use Rattle.std.proofs.Common.{get_or, sym, arith}
use Rattle.stp_window.proofs.Swept.{at_place, passes_at_atom, passes_at_low}
use Rattle.stp_window.specs.declared.sweeping.Mention.{Mention}
use Rattle.stp_window.proofs.sweeping.meeting_from.Goals as goal

pub returns-then-second-first : goal.returns-then-second-first
returns-then-second-first c =
    let ordered = c.args.ordered.now in
    let mentions = c.args.mentions.now in
    let start = c.args.start in
    let place = c.loop-place.place in
    let none : Mention = record { atom = 0; place = 0 } in
    let i = at_place mentions start none c.requires.start in
    let k = at_place mentions place none c.loop-place-test.true in
    passes_at_atom ordered mentions c.requires.swept start place (get_or mentions start none) (get_or mentions place none) c.index-ordered-first.result (omega arith) i
    (c.requires.swept.within start (get_or mentions start none) i, sym c.index-ordered-first.is) k (λ e. absurd (omega (arith, e))) c.loop-place.invariant

pub returns-then-one-other : goal.returns-then-one-other
returns-then-one-other c =
    let ordered = c.args.ordered.now in
    let mentions = c.args.mentions.now in
    let start = c.args.start in
    let place = c.loop-place.place in
    let none : Mention = record { atom = 0; place = 0 } in
    let i = at_place mentions start none c.requires.start in
    let k = at_place mentions place none c.loop-place-test.true in
    passes_at_low ordered mentions c.requires.swept start place (get_or mentions start none) (get_or mentions place none) c.index-ordered-first.result c.index-ordered-second.result i
    (c.requires.swept.within start (get_or mentions start none) i, sym c.index-ordered-first.is) k (c.requires.swept.within place (get_or mentions place none) k, sym c.index-ordered-second.is) c.if-second-first.false c.if-one-other.true c.loop-place.invariant
