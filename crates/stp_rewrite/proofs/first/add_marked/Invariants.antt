-- The values of the marked atoms so far are at the end.
use Rattle.std.proofs.Common.{◌≡◌, ◌++◌, map, filter}
use Rattle.std.specs.List.{range_with_len}
use Rattle.stp_cond.specs.Truth.{state_of_row}
use Rattle.stp_rewrite.proofs.first.add_marked.Given as goal

abbrev pub invariant-loop-number : goal.invariant-loop-number
invariant-loop-number l = l.values.items ≡ l.fn.values.items ++ map (state_of_row l.row) (filter (state_of_row l.marked) (range_with_len 0 l.number))
