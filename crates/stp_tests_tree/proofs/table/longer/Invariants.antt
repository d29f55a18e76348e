use Rattle.std.proofs.Common.{◌≡◌, take}
use Rattle.stp_tests_tree.proofs.table.longer.Given as goal

abbrev pub invariant-loop-before : goal.invariant-loop-before
invariant-loop-before l = l.more.items ≡ take l.before-index l.moves
