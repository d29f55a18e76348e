use Rattle.stp_happen.specs.StepViews.{steps_of}
use Rattle.stp_window.proofs.PlacedPoints.{timed_within, timed_bounds}
use Rattle.stp_window.proofs.points.window_of.Goals as goal

pub bounds-as_slice-place : goal.bounds-as_slice-place
bounds-as_slice-place c = timed_within (steps_of c.args.boxed.now.steps) c.args.boxed.now.timed c.as_slice.result.now c.args.point c.in-Timed.place c.in-Timed.is c.as_slice.ensures c.requires

pub returns-in-Timed : goal.returns-in-Timed
returns-in-Timed c =
    timed_bounds (steps_of c.args.boxed.now.steps) c.args.boxed.now.timed c.as_slice.result.now c.args.point c.in-Timed.place c.index-as_slice-place.result c.in-Timed.is c.as_slice.ensures c.index-as_slice-place.is
