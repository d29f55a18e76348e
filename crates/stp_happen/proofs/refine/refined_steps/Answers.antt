use Rattle.std.proofs.Common.{[], ◌∷◌, ◌*◌, ◌++◌, map, arith, ap, ◌∙◌}
use Rattle.std.proofs.lemmas.List.{map-append}
use Rattle.std.proofs.lemmas.List.Elements.{All-push}
use Rattle.stp_happen.specs.SoundBox.{IsBoxStep}
use Rattle.stp_happen.specs.Owners.{finer_step}
use Rattle.stp_happen.specs.StepViews.{step_of, steps_of}
use Rattle.stp_happen.proofs.OwnerSteps.{fact_at}
use Rattle.stp_happen.proofs.Refining.{mapped_more}
use Rattle.stp_happen.proofs.refine.refined_steps.Goals as goal

-- the item at hand is refined, and put at the end
pub loop-step-preserved : goal.loop-step-preserved
loop-step-preserved c =
    let items = c.args.steps.now in
    let k = c.args.factor in
    let i = c.loop-step.step-index in
    let x = c.step-item.result in
    let done = c.loop-step.refined in
    let new = c.refined_step.result in
    record {
      same = mapped_more step_of (finer_step k) items i x (omega arith) c.step-item.is (steps_of done) (steps_of c.push.new.self) (map (finer_step k) (steps_of items))
          (ap steps_of c.in_ok-push.ensures.ok ∙ (map-append step_of done (new ∷ []) ∙ ap (λ t. steps_of done ++ t ∷ []) c.refined_step.ensures.same)) c.loop-step.invariant.same;
      in_range = λ grid n h.
          let b = fact_at (IsBoxStep grid n) items i x (omega arith) c.step-item.is h in
          rw c.in_ok-push.ensures.ok (All-push (IsBoxStep (grid * k) n) done new (c.loop-step.invariant.in_range grid n h) (c.refined_step.ensures.in_range grid n b));
    }
