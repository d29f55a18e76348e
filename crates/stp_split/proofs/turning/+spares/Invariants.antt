-- What is left of the parts is spared where all are, and its atoms are in the row.
use Rattle.std.proofs.Common.{◌≡◌, true, not, length, drop, map}
use Rattle.stp_cond.specs.Truth.{all_of, reads_only, state_of_row, is_below}
use Rattle.stp_split.specs.Cases.{turns_at}
use Rattle.stp_window.specs.Views.{point_of}
use Rattle.stp_split.proofs.turning.+spares.Given as goal

abbrev pub decreases-spares : goal.decreases-spares
decreases-spares l = goal.size-spares l

abbrev pub invariant-loop-part : goal.invariant-loop-part
invariant-loop-part l = record {
  below : all_of (map (is_below (length l.row)) (drop l.part-index l.part-items)) ≡ true;
  same : all_of (map (reads_only (λ a. not (turns_at (point_of l.end) (state_of_row l.row) a))) (drop l.part-index l.part-items)) ≡ reads_only (λ a. not (turns_at (point_of l.end) (state_of_row l.row) a)) l.cond;
}
