-- The actions so far, and those that are left, are all; none of these has too many footprints.
use Rattle.std.proofs.Common.{◌≡◌, ◌+◌, ◌++◌, None, map, drop}
use Rattle.std.specs.List.{enumerate_from}
use Rattle.stp_task.specs.Actions.{action_of}
use Rattle.stp_rewrite.specs.Refusals.{first_of, is_past_limit}
use Rattle.stp_rewrite.specs.RewrittenTasks.{numbered_actions, rewritten_action}
use Rattle.stp_rewrite.specs.Rewriters.{rewriting_by, task_in}
use Rattle.stp_rewrite.specs.Views.{rewritten_action_of}
use Rattle.stp_rewrite.proofs.rewriter.Rewriter.actions.Given as goal

abbrev pub invariant-loop-place : goal.invariant-loop-place
invariant-loop-place l = record {
  few : first_of (is_past_limit (rewriting_by l.fn.self)) (enumerate_from (l.place + 1) (drop l.place (map action_of l.fn.self.task.now.actions))) ≡ None;
  so_far : map rewritten_action_of l.made ++ map (λ p. rewritten_action (rewriting_by l.fn.self) p.0 p.1) (enumerate_from (l.place + 1) (drop l.place (map action_of l.fn.self.task.now.actions))) ≡ map (λ p. rewritten_action (rewriting_by l.fn.self) p.0 p.1) (numbered_actions (task_in l.fn.self));
}
