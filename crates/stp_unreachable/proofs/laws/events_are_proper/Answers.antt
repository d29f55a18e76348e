use Rattle.stp_unreachable.proofs.Premises.{events_are_proper}
use Rattle.stp_unreachable.proofs.laws.events_are_proper.Goals as goal

pub returns : goal.returns
returns c = events_are_proper
