use Rattle.stp_cond.proofs.Interferes.{atoms_show_interference}
use Rattle.stp_cond.proofs.laws.atoms_show_interference.Goals as goal

pub returns : goal.returns
returns c = atoms_show_interference
