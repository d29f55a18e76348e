use Rattle.stp_happen.proofs.Refining.{timed_in_range}
use Rattle.stp_happen.proofs.refine.refined_event.Goals as goal

-- the bounds and the grid grow by one factor
pub returns-clause-in_range : goal.returns-clause-in_range
returns-clause-in_range c = λ grid n b. timed_in_range grid n c.args.factor c.args.timed.now c.requires.factor.0 b
