-- What the entries so far write has the value, and the rest is as it was.
use Rattle.std.proofs.Common.{◌≡◌, ℕ, false, if◌then◌else◌, length, take}
use Rattle.std.specs.List.{list_any}
use Rattle.stp_cond.specs.Atoms.{has}
use Rattle.stp_cond.specs.Truth.{state_of_row}
use Rattle.stp_happen.specs.Views.{entries_of}
use Rattle.stp_happen.proofs.moments.delete_all.Given as goal

abbrev pub invariant-loop-entry : goal.invariant-loop-entry
invariant-loop-entry l = record {
  len : length l.row ≡ length l.fn.row;
  state : (a : ℕ) → state_of_row l.row a ≡ (if list_any (λ e. has e.event.dels a) (entries_of (take l.entry-index l.moment)) then false else state_of_row l.fn.row a);
}
