use Rattle.stp_happen.proofs.OwnedBoxes.{step_owner_in_range}
use Rattle.stp_happen.proofs.owning.step_owner.Goals as goal

-- a step has a first event and something inside
pub returns-clause-in_range : goal.returns-clause-in_range
returns-clause-in_range c = λ grid n b. step_owner_in_range grid n c.args.number c.args.step.now b
