use Rattle.std.proofs.Common.{◌≡◌, drop}
use Rattle.stp_text.specs.Tree.{views}
use Rattle.stp_problem.specs.Written.{are_literals}
use Rattle.stp_problem.proofs.written.are_literals.Given as goal

abbrev pub invariant-loop-item : goal.invariant-loop-item
invariant-loop-item l = are_literals (views (drop l.item-index l.items)) ≡ are_literals (views l.items)
