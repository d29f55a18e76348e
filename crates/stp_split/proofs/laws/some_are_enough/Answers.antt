use Rattle.stp_split.proofs.Splitting.{one_is_enough, others_are_enough}
use Rattle.stp_split.proofs.laws.some_are_enough.Goals as goal

pub returns-clause-one : goal.returns-clause-one
returns-clause-one c = one_is_enough

pub returns-clause-others : goal.returns-clause-others
returns-clause-others c = others_are_enough
