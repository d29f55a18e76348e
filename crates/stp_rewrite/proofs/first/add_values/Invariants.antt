-- The values so far are at the end.
use Rattle.std.proofs.Common.{◌≡◌, ◌++◌, take}
use Rattle.stp_rewrite.proofs.first.add_values.Given as goal

abbrev pub invariant-loop-number : goal.invariant-loop-number
invariant-loop-number l = l.values.items ≡ l.fn.values.items ++ take l.number l.row
