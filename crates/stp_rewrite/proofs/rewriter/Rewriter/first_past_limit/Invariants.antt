-- The first among the actions that are left is the first of all.
use Rattle.std.proofs.Common.{◌≡◌, ◌+◌, map, drop}
use Rattle.std.specs.List.{enumerate_from}
use Rattle.stp_task.specs.Actions.{action_of}
use Rattle.stp_rewrite.specs.Refusals.{first_of, first_past_limit, is_past_limit}
use Rattle.stp_rewrite.specs.Rewriters.{rewriting_by, task_in}
use Rattle.stp_rewrite.proofs.rewriter.Rewriter.first_past_limit.Given as goal

abbrev pub invariant-loop-place : goal.invariant-loop-place
invariant-loop-place l = first_of (is_past_limit (rewriting_by l.fn.self)) (enumerate_from (l.place + 1) (drop l.place (map action_of l.fn.self.task.now.actions))) ≡ first_past_limit (task_in l.fn.self)
