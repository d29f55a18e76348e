-- Those of the atoms so far.
use Rattle.std.proofs.Common.{◌≡◌, take, filter}
use Rattle.stp_cond.specs.Atoms.{has}
use Rattle.stp_cond.specs.Views.{atoms_of}
use Rattle.stp_expand.proofs.footprint.those_among.Given as goal

abbrev pub invariant-loop-atom : goal.invariant-loop-atom
invariant-loop-atom l = atoms_of l.found.items ≡ filter (has (atoms_of l.other)) (atoms_of (take l.atom-index l.atoms))
