-- What a task with its numbers is rewritten by.
use Rattle.std.specs.Prelude.{ℕ, length}
use Rattle.stp_task.specs.Tasks.{PlainTask, plain_task}
use Rattle.stp_rewriting.specs.Rewritten.{Rewriting}
use Rattle.stp_rewrite.specs.declared.rewriter.Rewriter.{Rewriter}
use Rattle.stp_rewrite.specs.RewrittenTasks.{rewriting_in}

abbrev pub task_in : Rewriter → PlainTask
task_in r = plain_task r.task.now

abbrev pub rewriting_by : Rewriter → Rewriting
rewriting_by r = rewriting_in (task_in r)

-- how many atoms the task has
abbrev pub plain_in : Rewriter → ℕ
plain_in r = length r.task.now.initial
