use Rattle.stp_condition.proofs.TypedTimedConditions.{timed_condition_typed}
use Rattle.stp_condition.proofs.laws.read_timed_conditions_are_typed.Goals as goal

pub returns : goal.returns
returns c = timed_condition_typed
