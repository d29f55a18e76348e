use Rattle.stp_window.proofs.PlacedPoints.{step_there}
use Rattle.stp_window.proofs.points.step_at.Goals as goal

pub returns : goal.returns
returns c = step_there c.args.steps.now c.args.number.0 c.index-steps-number.result c.requires c.index-steps-number.is
