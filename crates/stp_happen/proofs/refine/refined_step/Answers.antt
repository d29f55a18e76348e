use Rattle.stp_happen.proofs.Refining.{refined_in_range}
use Rattle.stp_happen.proofs.refine.refined_step.Goals as goal

pub returns-clause-in_range : goal.returns-clause-in_range
returns-clause-in_range c = λ grid n b. refined_in_range grid n c.args.factor c.args.step.now c.requires.factor.0 b
