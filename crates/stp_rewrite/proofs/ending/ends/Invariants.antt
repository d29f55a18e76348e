-- The ends so far, and those of the actions that are left, are all.
use Rattle.std.proofs.Common.{◌≡◌, ◌+◌, ◌++◌, map, drop}
use Rattle.stp_task.specs.Actions.{action_of}
use Rattle.stp_task.specs.Tasks.{plain_task}
use Rattle.stp_rewriting.specs.Numbering.{endings_from}
use Rattle.stp_rewrite.specs.Ends.{end_by, end_views, ends_by}
use Rattle.stp_rewrite.specs.RewrittenTasks.{kept_of, rewriting_in}
use Rattle.stp_rewrite.proofs.ending.ends.Given as goal

abbrev pub invariant-loop-place : goal.invariant-loop-place
invariant-loop-place l = end_views l.ends ++ map (end_by (rewriting_in (plain_task l.task))) (endings_from (l.place + 1) (map kept_of (drop l.place (map action_of l.task.actions)))) ≡ ends_by (rewriting_in (plain_task l.task))
