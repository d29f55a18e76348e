use Rattle.std.proofs.Common.{[], ◌∷◌, ◌+◌, ◌++◌, arith, ap, ◌∙◌}
use Rattle.std.proofs.lemmas.List.{map-append}
use Rattle.std.proofs.lemmas.List.Elements.{All-push}
use Rattle.stp_happen.specs.SoundBox.{IsBoxStep}
use Rattle.stp_happen.specs.SoundOwned.{IsOwner}
use Rattle.stp_happen.specs.Owners.{step_owners}
use Rattle.stp_happen.specs.OwnerViews.{plain_owner, plain_owners}
use Rattle.stp_happen.specs.StepViews.{steps_of}
use Rattle.stp_happen.proofs.OwnerSteps.{fact_at}
use Rattle.stp_happen.proofs.OwnedBoxes.{step_more}
use Rattle.stp_happen.proofs.owning.owners_of_steps.Goals as goal

-- the step at hand has the next number, and its owner is put at the end
pub loop-step-preserved : goal.loop-step-preserved
loop-step-preserved c =
    let steps = c.args.steps.now in
    let i = c.loop-step.step-index in
    let s = c.step-item.result in
    let done = c.loop-step.owners in
    let new = c.step_owner.result in
    record {
      number = omega arith;
      same = step_more steps i s (omega arith) c.step-item.is (c.loop-step.number + 1) (plain_owners done) (plain_owners c.push.new.self) (step_owners 1 (steps_of steps))
          (ap plain_owners c.in_ok-push.ensures.ok ∙ (map-append plain_owner done (new ∷ []) ∙ ap (λ t. plain_owners done ++ t ∷ []) c.step_owner.ensures.same)) c.loop-step.invariant.same;
      in_range = λ grid n h.
          let b = fact_at (IsBoxStep grid n) steps i s (omega arith) c.step-item.is h in
          rw c.in_ok-push.ensures.ok (All-push (IsOwner grid n) done new (c.loop-step.invariant.in_range grid n h) (c.step_owner.ensures.in_range grid n b));
    }
