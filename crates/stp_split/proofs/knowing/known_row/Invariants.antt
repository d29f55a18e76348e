-- The atoms that are still known are written by none of the ends so far, and those that none of them writes are known.
use Rattle.std.proofs.Common.{◌≡◌, length, take}
use Rattle.stp_cond.specs.Truth.{state_of_row}
use Rattle.stp_split.proofs.KnownRows.{KnownPast, KeptPast}
use Rattle.stp_split.proofs.knowing.known_row.Given as goal

abbrev pub invariant-loop-end : goal.invariant-loop-end
invariant-loop-end l = record {
  len : length l.known.items ≡ length l.row;
  past : KnownPast l.known.items (take l.end-index l.ends) (state_of_row l.row);
  kept : KeptPast l.known.items (take l.end-index l.ends) (length l.row) (state_of_row l.row);
}
