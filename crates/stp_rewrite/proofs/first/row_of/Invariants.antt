-- The values so far are in the row.
use Rattle.std.proofs.Common.{◌≡◌, length, take}
use Rattle.stp_rewrite.proofs.first.row_of.Given as goal

abbrev pub invariant-loop-number : goal.invariant-loop-number
invariant-loop-number l = record {
  len : length l.row ≡ length l.values;
  so_far : take l.number l.row ≡ take l.number l.values;
}
