-- The atoms so far got the value, and those of them that had another are noted.
use Rattle.std.proofs.Common.{take}
use Rattle.stp_cond.specs.Views.{atoms_of}
use Rattle.stp_relax.specs.Taken.{IsMarked}
use Rattle.stp_relax.proofs.taking.mark.Given as goal

abbrev pub invariant-loop-atom : goal.invariant-loop-atom
invariant-loop-atom l = record {
  marked : IsMarked l.value (atoms_of (take l.atom-index l.atoms)) l.fn.row l.row (atoms_of l.fn.noted.items) (atoms_of l.noted.items);
}
