use Rattle.stp_happen.specs.StepViews.{steps_of}
use Rattle.stp_window.proofs.PlacedPoints.{is_timed_there}
use Rattle.stp_window.proofs.points.is_there.Goals as goal

pub returns-in-Timed : goal.returns-in-Timed
returns-in-Timed c = is_timed_there (steps_of c.args.boxed.now.steps) c.args.boxed.now.timed c.as_slice.result.now c.args.point c.in-Timed.place c.in-Timed.is c.as_slice.ensures
