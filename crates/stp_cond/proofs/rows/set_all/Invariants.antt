-- The atoms so far have the value, and the others are as they were.
use Rattle.std.proofs.Common.{◌≡◌, ℕ, if◌then◌else◌, length, take}
use Rattle.stp_cond.specs.Atoms.{has}
use Rattle.stp_cond.specs.Truth.{state_of_row}
use Rattle.stp_cond.specs.Views.{atoms_of}
use Rattle.stp_cond.proofs.rows.set_all.Given as goal

abbrev pub invariant-loop-atom : goal.invariant-loop-atom
invariant-loop-atom l = record {
  len : length l.row ≡ length l.fn.row;
  state : (a : ℕ) → state_of_row l.row a ≡ (if has (atoms_of (take l.atom-index l.atoms)) a then l.value else state_of_row l.fn.row a);
}
