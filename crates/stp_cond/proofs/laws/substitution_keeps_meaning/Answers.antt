use Rattle.stp_cond.proofs.Meaning.{substitution_keeps_truth, substitution_maps_atoms}
use Rattle.stp_cond.proofs.laws.substitution_keeps_meaning.Goals as goal

pub returns-clause-truth : goal.returns-clause-truth
returns-clause-truth c = substitution_keeps_truth

pub returns-clause-atoms : goal.returns-clause-atoms
returns-clause-atoms c = substitution_maps_atoms
