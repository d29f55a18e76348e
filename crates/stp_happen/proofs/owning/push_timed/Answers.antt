use Rattle.std.proofs.Common.{[], ◌∷◌, ◌++◌, arith, ap, ◌∙◌}
use Rattle.std.proofs.lemmas.List.{map-append}
use Rattle.std.proofs.lemmas.List.Elements.{All-push}
use Rattle.stp_happen.specs.SoundBox.{IsBoxTimed}
use Rattle.stp_happen.specs.SoundOwned.{IsOwner}
use Rattle.stp_happen.specs.Owners.{timed_owners}
use Rattle.stp_happen.specs.OwnerViews.{plain_owner, plain_owners}
use Rattle.stp_happen.specs.StepViews.{timed_of}
use Rattle.stp_happen.proofs.OwnerSteps.{fact_at}
use Rattle.stp_happen.proofs.OwnedBoxes.{timed_more}
use Rattle.stp_happen.proofs.owning.push_timed.Goals as goal

-- the owner of the event at hand is put at the end, and the next number follows from the event
pub loop-event-preserved : goal.loop-event-preserved
loop-event-preserved c =
    let timed = c.args.timed.now in
    let i = c.loop-event.event-index in
    let e = c.event-item.result in
    let done = c.loop-event.owners in
    let new = c.timed_owner.result in
    record {
      next = omega (arith, c.number_past-next.ensures.up, c.loop-event.invariant.next);
      same = rw c.number_past-next.ensures.same
          (timed_more timed i e (omega arith) c.event-item.is c.loop-event.next (plain_owners done) (plain_owners c.push.new.self) (plain_owners c.args.owners.now ++ timed_owners c.args.first (timed_of timed))
          (ap plain_owners c.in_ok-push.ensures.ok ∙ (map-append plain_owner done (new ∷ []) ∙ ap (λ t. plain_owners done ++ t ∷ []) c.timed_owner.ensures.same)) c.loop-event.invariant.same);
      in_range = λ grid n h k.
          let b = fact_at (IsBoxTimed grid n) timed i e (omega arith) c.event-item.is k in
          rw c.in_ok-push.ensures.ok (All-push (IsOwner grid n) done new (c.loop-event.invariant.in_range grid n h k) (c.timed_owner.ensures.in_range grid n b));
    }
