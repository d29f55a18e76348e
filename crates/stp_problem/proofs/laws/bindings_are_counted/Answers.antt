use Rattle.stp_problem.proofs.AllBindings.{bindings_number}
use Rattle.stp_problem.proofs.laws.bindings_are_counted.Goals as goal

pub returns : goal.returns
returns c = record { number = bindings_number }
