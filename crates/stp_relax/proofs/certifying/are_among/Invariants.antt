-- What is left of the atoms answers as all do.
use Rattle.std.proofs.Common.{◌≡◌, drop}
use Rattle.std.specs.List.{list_all}
use Rattle.stp_cond.specs.Atoms.{has}
use Rattle.stp_cond.specs.Views.{atoms_of}
use Rattle.stp_relax.proofs.certifying.are_among.Given as goal

abbrev pub invariant-loop-atom : goal.invariant-loop-atom
invariant-loop-atom l = list_all (has (atoms_of l.others)) (atoms_of (drop l.atom-index l.atoms)) ≡ list_all (has (atoms_of l.others)) (atoms_of l.atoms)
