-- The locks so far, and those of the actions that are left, are all.
use Rattle.std.proofs.Common.{◌≡◌, ◌+◌, ◌≤◌, map, drop}
use Rattle.std.specs.List.{enumerate_from, sum_by}
use Rattle.stp_task.specs.Actions.{action_of}
use Rattle.stp_rewrite.specs.Counts.{cut, locks_of_action}
use Rattle.stp_rewrite.specs.RewrittenTasks.{numbered_actions}
use Rattle.stp_rewrite.specs.Rewriters.{rewriting_by, task_in}
use Rattle.stp_rewrite.proofs.rewriter.Rewriter.locks_of_actions.Given as goal

abbrev pub invariant-loop-place : goal.invariant-loop-place
invariant-loop-place l = record {
  low : l.count ≤ 10000001;
  so_far : cut (l.count + sum_by (λ p. locks_of_action (rewriting_by l.fn.self) p.0 p.1) (enumerate_from (l.place + 1) (drop l.place (map action_of l.fn.self.task.now.actions)))) ≡ cut (sum_by (λ p. locks_of_action (rewriting_by l.fn.self) p.0 p.1) (numbered_actions (task_in l.fn.self)));
}
