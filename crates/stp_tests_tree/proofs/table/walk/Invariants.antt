use Rattle.std.proofs.Common.{◌≡◌, drop, Some}
use Rattle.stp_tests_tree.specs.Tables.{walk}
use Rattle.stp_tests_tree.proofs.table.walk.Given as goal

-- what is left leads on to where all moves lead
abbrev pub invariant-loop-right : goal.invariant-loop-right
invariant-loop-right l = walk l.rows l.at (drop l.right-index l.moves) ≡ walk l.rows (Some 0) l.moves
