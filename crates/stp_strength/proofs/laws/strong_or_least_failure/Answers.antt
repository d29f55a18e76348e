use Rattle.stp_strength.proofs.Least.{strong_or_least_failure}
use Rattle.stp_strength.proofs.laws.strong_or_least_failure.Goals as goal

pub returns : goal.returns
returns c = strong_or_least_failure
