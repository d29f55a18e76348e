use Rattle.stp_cond.proofs.Meaning.{folding_keeps_truth, folding_keeps_atoms}
use Rattle.stp_cond.proofs.laws.folding_keeps_meaning.Goals as goal

pub returns-clause-truth : goal.returns-clause-truth
returns-clause-truth c = folding_keeps_truth

pub returns-clause-atoms : goal.returns-clause-atoms
returns-clause-atoms c = folding_keeps_atoms
