-- The atoms found are those so far that are true, and they ascend.
use Rattle.std.proofs.Common.{◌≡◌, ℕ, nat_lt, true, ◌&&◌}
use Rattle.stp_cond.specs.Atoms.{has}
use Rattle.stp_cond.specs.Truth.{state_of_row}
use Rattle.stp_cond.specs.Views.{atoms_of}
use Rattle.stp_cond.proofs.Rising.{rises}
use Rattle.stp_relax.proofs.listing.listed.Given as goal

abbrev pub invariant-loop-number : goal.invariant-loop-number
invariant-loop-number l = record {
  rising : rises (atoms_of l.found) ≡ true;
  those : (a : ℕ) → has (atoms_of l.found) a ≡ (nat_lt a l.number && state_of_row l.row a);
}
