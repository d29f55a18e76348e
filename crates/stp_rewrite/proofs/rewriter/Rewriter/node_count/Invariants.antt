-- The nodes so far, and those of the actions that are left, are all; none of these has too many footprints.
use Rattle.std.proofs.Common.{◌≡◌, ◌+◌, ◌≤◌, None, map, drop}
use Rattle.std.specs.List.{enumerate_from, sum_by}
use Rattle.stp_task.specs.Actions.{action_of}
use Rattle.stp_rewrite.specs.Counts.{cut, node_count, over_all_nodes}
use Rattle.stp_rewrite.specs.Refusals.{first_of, is_past_limit}
use Rattle.stp_rewrite.specs.Rewriters.{rewriting_by, task_in}
use Rattle.stp_rewrite.proofs.rewriter.Rewriter.node_count.Given as goal

abbrev pub invariant-loop-place : goal.invariant-loop-place
invariant-loop-place l = record {
  low : l.count ≤ 10000001;
  few : first_of (is_past_limit (rewriting_by l.fn.self)) (enumerate_from (l.place + 1) (drop l.place (map action_of l.fn.self.task.now.actions))) ≡ None;
  so_far : cut (l.count + sum_by (λ p. over_all_nodes (rewriting_by l.fn.self) p.0 p.1) (enumerate_from (l.place + 1) (drop l.place (map action_of l.fn.self.task.now.actions)))) ≡ cut (node_count (task_in l.fn.self));
}
