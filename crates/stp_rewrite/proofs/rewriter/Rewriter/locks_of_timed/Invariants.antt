-- The locks so far, and those of the events that are left, are all.
use Rattle.std.proofs.Common.{◌≡◌, ◌+◌, ◌≤◌, length, drop}
use Rattle.std.specs.List.{enumerate_from, sum_by}
use Rattle.stp_rewrite.specs.Counts.{cut, locks_of}
use Rattle.stp_rewrite.specs.RewrittenTasks.{numbered_timed}
use Rattle.stp_rewrite.specs.Rewriters.{rewriting_by, task_in}
use Rattle.stp_rewrite.proofs.rewriter.Rewriter.locks_of_timed.Given as goal

abbrev pub invariant-loop-place : goal.invariant-loop-place
invariant-loop-place l = record {
  low : l.count ≤ 10000001;
  so_far : cut (l.count + sum_by (λ p. locks_of (rewriting_by l.fn.self) p.0 p.1.event) (enumerate_from (l.place + (1 + length (task_in l.fn.self).actions)) (drop l.place (task_in l.fn.self).timed))) ≡ cut (sum_by (λ p. locks_of (rewriting_by l.fn.self) p.0 p.1.event) (numbered_timed (task_in l.fn.self)));
}
