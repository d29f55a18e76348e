-- The values of the atoms so far.
use Rattle.std.proofs.Common.{◌≡◌, ℕ, ◌<◌, length}
use Rattle.stp_cond.specs.Decided.{three_of}
use Rattle.stp_cond.specs.Folded.{known_of}
use Rattle.stp_cond.specs.Truth.{state_of_row}
use Rattle.stp_split.proofs.knowing.known_values.Given as goal

abbrev pub invariant-loop-atom : goal.invariant-loop-atom
invariant-loop-atom l = record {
  len : length l.known.items ≡ l.atom;
  all : (a : ℕ) → a < l.atom → known_of l.known.items a ≡ three_of (state_of_row l.row a);
}
