use Rattle.std.proofs.Common.{◌≡◌, [], ◌∷◌, ◌++◌, drop, refl, arith, subst, ap, sym, ◌∙◌}
use Rattle.std.proofs.lemmas.List.{append-nil, drop_all}
use Rattle.stp_happen.specs.Owners.{timed_owner, timed_owners, number_after}
use Rattle.stp_happen.specs.StepViews.{plain_timed, timed_of}
use Rattle.stp_window.specs.OwnerWindows.{end_point, points_of_owners}
use Rattle.stp_window.specs.LastWrites.{IsLastWrite}
use Rattle.stp_window.proofs.Later.{event_seen}
use Rattle.stp_window.proofs.certain.with_timed.Goals as goal

pub loop-event-init : goal.loop-event-init
loop-event-init c = λ seen number so_far. (seen, number, refl, so_far)

-- the event at hand adds its point to those that are seen
pub loop-event-preserved : goal.loop-event-preserved
loop-event-preserved c = λ seen number so_far.
    let timed = c.args.timed.now in
    let i = c.loop-event.event-index in
    let e = c.event-item.result in
    let r = c.loop-event.invariant seen number so_far in
    let p = end_point (timed_owner r.1 (plain_timed e)) in (
      r.0 ++ p ∷ [],
      number_after r.1 (plain_timed e),
      event_seen timed i e (omega arith) c.event-item.is r.1 r.0 (seen ++ points_of_owners (timed_owners number (timed_of timed))) r.2,
      c.with_event-last.ensures r.0 p refl refl r.3,
    )

-- in the end all events are seen
pub returns : goal.returns
returns c = λ seen number so_far.
    let timed = c.args.timed.now in
    let r = c.loop-event.invariant seen number so_far in
    let none : timed_of (drop c.loop-event.event-index timed) ≡ [] = ap timed_of (drop_all c.loop-event.event-index timed (omega arith)) in
    let all : r.0 ≡ seen ++ points_of_owners (timed_owners number (timed_of timed)) = sym (append-nil r.0) ∙ (ap (λ es. r.0 ++ points_of_owners (timed_owners r.1 es)) (sym none) ∙ r.2) in
    subst (λ ps. IsLastWrite ps c.args.atom.0 c.args.time c.loop-event.last) all r.3
