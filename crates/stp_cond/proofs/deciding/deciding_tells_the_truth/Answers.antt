use Rattle.stp_cond.proofs.Decided.{decided_holds_in_all, known_atoms_decide}
use Rattle.stp_cond.proofs.deciding.deciding_tells_the_truth.Goals as goal

pub returns-clause-holds : goal.returns-clause-holds
returns-clause-holds c = decided_holds_in_all

pub returns-clause-complete : goal.returns-clause-complete
returns-clause-complete c = known_atoms_decide
