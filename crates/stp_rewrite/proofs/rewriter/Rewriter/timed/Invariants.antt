-- The events so far, and those that are left, are all.
use Rattle.std.proofs.Common.{◌≡◌, ◌+◌, ◌++◌, length, map, drop}
use Rattle.std.specs.List.{enumerate_from}
use Rattle.stp_task.specs.Tasks.{timed_event_of}
use Rattle.stp_rewrite.specs.RewrittenTasks.{numbered_timed, rewritten_timed}
use Rattle.stp_rewrite.specs.Rewriters.{rewriting_by, task_in}
use Rattle.stp_rewrite.proofs.rewriter.Rewriter.timed.Given as goal

abbrev pub invariant-loop-place : goal.invariant-loop-place
invariant-loop-place l = map timed_event_of l.made ++ map (λ p. rewritten_timed (rewriting_by l.fn.self) p.0 p.1) (enumerate_from (l.place + (1 + length (task_in l.fn.self).actions)) (drop l.place (task_in l.fn.self).timed)) ≡ map (λ p. rewritten_timed (rewriting_by l.fn.self) p.0 p.1) (numbered_timed (task_in l.fn.self))
