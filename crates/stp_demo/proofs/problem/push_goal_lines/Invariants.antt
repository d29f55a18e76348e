-- The lines so far are appended.
use Rattle.std.proofs.Common.{◌≡◌, ◌++◌}
use Rattle.stp_demo.specs.Pieces.{each}
use Rattle.stp_demo.specs.Problem.{goal_line}
use Rattle.stp_demo.proofs.problem.push_goal_lines.Given as goal

abbrev pub invariant-loop-before : goal.invariant-loop-before
invariant-loop-before l = l.out ≡ l.fn.out ++ each goal_line l.before
