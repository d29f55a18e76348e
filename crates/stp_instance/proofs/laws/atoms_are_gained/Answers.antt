use Rattle.stp_instance.proofs.Gained.{each, once}
use Rattle.stp_instance.proofs.laws.atoms_are_gained.Goals as goal

pub returns : goal.returns
returns c = record { each = each; once = once }
