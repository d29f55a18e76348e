use Rattle.stp_strength.proofs.BoxLaws.{box_least_failure_exactly_where_weak}
use Rattle.stp_strength.proofs.laws.box_least_failure_exactly_where_weak.Goals as goal

pub returns : goal.returns
returns c = box_least_failure_exactly_where_weak
