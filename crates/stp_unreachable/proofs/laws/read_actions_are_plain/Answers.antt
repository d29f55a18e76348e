use Rattle.stp_unreachable.proofs.Premises.{read_actions_are_plain}
use Rattle.stp_unreachable.proofs.laws.read_actions_are_plain.Goals as goal

pub returns : goal.returns
returns c = read_actions_are_plain
