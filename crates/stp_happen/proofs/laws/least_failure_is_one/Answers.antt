use Rattle.stp_happen.proofs.LeastFailures.{least_failure_is_one}
use Rattle.stp_happen.proofs.laws.least_failure_is_one.Goals as goal

pub returns : goal.returns
returns c = least_failure_is_one
