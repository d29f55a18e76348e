-- The atoms so far are those of the numbers so far.
use Rattle.std.proofs.Common.{◌≡◌, take}
use Rattle.stp_cond.specs.Views.{atoms_of}
use Rattle.stp_cond.proofs.gathering.atoms.Given as goal

abbrev pub invariant-loop-number : goal.invariant-loop-number
invariant-loop-number l = atoms_of l.found ≡ take l.number-index l.number-items
