-- The atoms so far have their numbers, and as many numbers are given.
use Rattle.std.proofs.Common.{◌≡◌, ◌+◌}
use Rattle.stp_cond.specs.Truth.{state_of_row}
use Rattle.stp_rewrite.specs.Rows.{numbers_if, passing_below}
use Rattle.stp_rewrite.specs.Views.{numbers_of}
use Rattle.stp_rewrite.proofs.numbering.numbers.Given as goal

abbrev pub invariant-loop-number : goal.invariant-loop-number
invariant-loop-number l = record {
  row : numbers_of l.row ≡ numbers_if (state_of_row l.marked) l.fn.next l.number;
  next : l.next ≡ l.fn.next + passing_below (state_of_row l.marked) l.number;
}
