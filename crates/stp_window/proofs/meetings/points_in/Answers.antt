use Rattle.stp_happen.specs.StepViews.{steps_of, timed_of}
use Rattle.stp_happen.proofs.OwnedBoxes.{few_of_box}
use Rattle.stp_window.proofs.NamedPoints.{all_named}
use Rattle.stp_window.proofs.meetings.points_in.Goals as goal

pub push_of_timed-requires : goal.push_of_timed-requires
push_of_timed-requires c = few_of_box c.args.boxed.now c.as_slice-2.result.now c.as_slice-2.ensures

-- the points of the steps, and then those of the events
pub returns : goal.returns
returns c =
    let box = c.args.boxed.now in
    all_named box.steps c.as_slice.result.now box.timed c.as_slice-2.result.now c.new-points.result c.push_of_steps.new.points c.push_of_timed.new.points c.as_slice.ensures c.as_slice-2.ensures c.new-points.ensures (c.in_ok-push_of_steps.ensures (timed_of box.timed)) (c.in_ok-push_of_timed.ensures (steps_of box.steps))
