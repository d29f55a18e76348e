use Rattle.stp_cond.proofs.Holding.{atoms_decide_truth}
use Rattle.stp_cond.proofs.laws.atoms_decide_truth.Goals as goal

pub returns : goal.returns
returns c = atoms_decide_truth
