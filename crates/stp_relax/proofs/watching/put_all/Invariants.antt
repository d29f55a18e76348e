-- The reader stands at the atoms so far.
use Rattle.std.proofs.Common.{take}
use Rattle.stp_cond.specs.Views.{atoms_of}
use Rattle.stp_relax.specs.Watched.{IsPut}
use Rattle.stp_relax.proofs.watching.put_all.Given as goal

abbrev pub invariant-loop-atom : goal.invariant-loop-atom
invariant-loop-atom l = IsPut (atoms_of (take l.atom-index l.atoms)) l.reader l.fn.readers.items l.readers.items
