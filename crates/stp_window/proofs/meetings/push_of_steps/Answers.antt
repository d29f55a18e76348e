use Rattle.std.proofs.Common.{◌≡◌, ◌+◌, ◌++◌, Some, map, ap, ◌∙◌, arith}
use Rattle.stp_happen.specs.Owners.{step_owners}
use Rattle.stp_happen.specs.StepViews.{step_of, steps_of}
use Rattle.stp_window.specs.OwnerWindows.{points_of_owners}
use Rattle.stp_window.specs.Points.{step_numbered, point_at}
use Rattle.stp_window.proofs.NamedPoints.{step_at, steps_more, steps_all}
use Rattle.stp_window.proofs.meetings.push_of_steps.Goals as goal

pub loop-step-preserved : goal.loop-step-preserved
loop-step-preserved c =
    let steps = c.args.steps.now in
    let i = c.loop-step.step-index in
    let s = c.step-item.result in
    let number = c.loop-step.number + 1 in
    let next : number ≡ i + 1 = omega (arith, c.loop-step.invariant.number) in
    let there : step_numbered (steps_of steps) number ≡ Some (step_of s) = ap (step_numbered (steps_of steps)) next ∙ step_at steps i s (omega arith) c.step-item.is in
    record {
      number = next;
      same = λ timed. steps_more timed steps i s (omega arith) c.step-item.is number c.loop-step.points c.push_of_step.new.points (map (point_at (steps_of steps) timed) c.args.points.now ++ map Some (points_of_owners (step_owners 1 (steps_of steps)))) (c.in_ok-push_of_step.ensures (steps_of steps) timed there) (c.loop-step.invariant.same timed);
    }

pub returns : goal.returns
returns c = λ timed. steps_all timed c.args.steps.now c.loop-step.step-index c.loop-step-test.false (c.loop-step.number + 1) c.loop-step.points (map (point_at (steps_of c.args.steps.now) timed) c.args.points.now ++ map Some (points_of_owners (step_owners 1 (steps_of c.args.steps.now)))) (c.loop-step.invariant.same timed)
