use Rattle.stp_strength.proofs.Least.{least_failure_exactly_where_weak}
use Rattle.stp_strength.proofs.laws.least_failure_exactly_where_weak.Goals as goal

pub returns : goal.returns
returns c = least_failure_exactly_where_weak
