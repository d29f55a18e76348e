use Rattle.std.proofs.Common.{◌+◌, ◌++◌, arith}
use Rattle.stp_happen.specs.Owners.{step_owner, step_owners}
use Rattle.stp_happen.specs.StepViews.{step_of, steps_of}
use Rattle.stp_window.specs.OwnerWindows.{points_of_owner, points_of_owners}
use Rattle.stp_window.proofs.Later.{step_seen}
use Rattle.stp_window.proofs.certain.with_steps.Goals as goal

-- the step at hand adds its points to those that are seen
pub loop-step-preserved : goal.loop-step-preserved
loop-step-preserved c =
    let steps = c.args.steps.now in
    let i = c.loop-step.step-index in
    let s = c.step-item.result in
    let seen = c.loop-step.invariant.0 in
    let number = i + 1 in (
      seen ++ points_of_owner (step_owner number (step_of s)),
      step_seen steps i s (omega arith) c.step-item.is number seen (points_of_owners (step_owners 1 (steps_of steps))) c.loop-step.invariant.1,
      c.with_step-last.ensures seen number c.loop-step.invariant.2,
    )
