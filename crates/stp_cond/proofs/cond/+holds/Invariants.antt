-- What is left of the parts has the truth of all, and its atoms are in the row.
use Rattle.std.proofs.Common.{◌≡◌, true, length, drop, map}
use Rattle.stp_cond.specs.Truth.{all_of, any_of, truth, state_of_row, is_below}
use Rattle.stp_cond.proofs.cond.+holds.Given as goal

abbrev pub decreases-holds : goal.decreases-holds
decreases-holds l = goal.size-holds l

abbrev pub invariant-loop-part : goal.invariant-loop-part
invariant-loop-part l = record {
  below : all_of (map (is_below (length l.row)) (drop l.part-index l.part-items)) ≡ true;
  same : all_of (map (truth (state_of_row l.row)) (drop l.part-index l.part-items)) ≡ truth (state_of_row l.row) l.cond;
}

abbrev pub invariant-loop-part-2 : goal.invariant-loop-part-2
invariant-loop-part-2 l = record {
  below : all_of (map (is_below (length l.row)) (drop l.part-index l.part-items)) ≡ true;
  same : any_of (map (truth (state_of_row l.row)) (drop l.part-index l.part-items)) ≡ truth (state_of_row l.row) l.cond;
}
