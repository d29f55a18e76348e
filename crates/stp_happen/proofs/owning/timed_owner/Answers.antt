use Rattle.stp_happen.proofs.OwnedBoxes.{timed_owner_in_range}
use Rattle.stp_happen.proofs.owning.timed_owner.Goals as goal

-- an event has a last event only
pub returns-clause-in_range : goal.returns-clause-in_range
returns-clause-in_range c = λ grid n b. timed_owner_in_range grid n _ c.args.timed.now b
