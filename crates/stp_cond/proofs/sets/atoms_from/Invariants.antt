-- The atoms so far are those of the numbers so far.
use Rattle.std.proofs.Common.{◌≡◌, take}
use Rattle.stp_cond.specs.Views.{atoms_of}
use Rattle.stp_cond.proofs.sets.atoms_from.Given as goal

abbrev pub invariant-loop-number : goal.invariant-loop-number
invariant-loop-number l = atoms_of l.atoms.items ≡ take l.number-index l.numbers
