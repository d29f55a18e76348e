use Rattle.stp_rewriting.proofs.Numbers.{numbers_are_proper}
use Rattle.stp_rewriting.proofs.laws.numbers_are_proper.Goals as goal

pub returns : goal.returns
returns c = numbers_are_proper
