use Rattle.stp_instance.proofs.Gained.{with_atoms_grow, numbers_stay}
use Rattle.stp_instance.proofs.laws.numbers_stay.Goals as goal

pub returns : goal.returns
returns c = record { grown = with_atoms_grow; stay = numbers_stay }
