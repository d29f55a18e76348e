-- What is left of the atoms answers as all do.
use Rattle.std.proofs.Common.{◌≡◌, drop}
use Rattle.std.specs.List.{list_all}
use Rattle.stp_cond.specs.Truth.{state_of_row}
use Rattle.stp_cond.specs.Views.{atoms_of}
use Rattle.stp_relax.proofs.certifying.are_set.Given as goal

abbrev pub invariant-loop-atom : goal.invariant-loop-atom
invariant-loop-atom l = list_all (state_of_row l.row) (atoms_of (drop l.atom-index l.atoms)) ≡ list_all (state_of_row l.row) (atoms_of l.atoms)
