use Rattle.std.proofs.Common.{[], ◌∷◌, ◌*◌, ◌++◌, map, arith, ap, ◌∙◌}
use Rattle.std.proofs.lemmas.List.{map-append}
use Rattle.std.proofs.lemmas.List.Elements.{All-push}
use Rattle.stp_happen.specs.SoundBox.{IsBoxTimed}
use Rattle.stp_happen.specs.Owners.{finer_timed}
use Rattle.stp_happen.specs.StepViews.{plain_timed, timed_of}
use Rattle.stp_happen.proofs.OwnerSteps.{fact_at}
use Rattle.stp_happen.proofs.Refining.{mapped_more}
use Rattle.stp_happen.proofs.refine.refined_events.Goals as goal

-- the item at hand is refined, and put at the end
pub loop-event-preserved : goal.loop-event-preserved
loop-event-preserved c =
    let items = c.args.timed.now in
    let k = c.args.factor in
    let i = c.loop-event.event-index in
    let x = c.event-item.result in
    let done = c.loop-event.refined in
    let new = c.refined_event.result in
    record {
      same = mapped_more plain_timed (finer_timed k) items i x (omega arith) c.event-item.is (timed_of done) (timed_of c.push.new.self) (map (finer_timed k) (timed_of items))
          (ap timed_of c.in_ok-push.ensures.ok ∙ (map-append plain_timed done (new ∷ []) ∙ ap (λ t. timed_of done ++ t ∷ []) c.refined_event.ensures.same)) c.loop-event.invariant.same;
      in_range = λ grid n h.
          let b = fact_at (IsBoxTimed grid n) items i x (omega arith) c.event-item.is h in
          rw c.in_ok-push.ensures.ok (All-push (IsBoxTimed (grid * k) n) done new (c.loop-event.invariant.in_range grid n h) (c.refined_event.ensures.in_range grid n b));
    }
