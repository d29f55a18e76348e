use Rattle.stp_condition.proofs.TypedConditions.{condition_typed}
use Rattle.stp_condition.proofs.laws.read_condition_is_typed.Goals as goal

pub returns : goal.returns
returns c = λ k tree scope some none. condition_typed k some tree scope none
