use Rattle.stp_cond.proofs.Reading.{truth_reads_its_atoms}
use Rattle.stp_cond.proofs.laws.truth_reads_its_atoms.Goals as goal

pub returns : goal.returns
returns c = truth_reads_its_atoms
