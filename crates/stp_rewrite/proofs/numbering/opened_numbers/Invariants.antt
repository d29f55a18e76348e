-- The actions so far have their numbers, and as many numbers are given.
use Rattle.std.proofs.Common.{◌≡◌, ◌+◌, ◌++◌, length, map, take, drop}
use Rattle.std.specs.List.{enumerate_from}
use Rattle.stp_task.specs.Actions.{action_of}
use Rattle.stp_task.specs.Tasks.{plain_task}
use Rattle.stp_rewriting.specs.Numbering.{endings_from}
use Rattle.stp_rewrite.specs.RewrittenTasks.{first_opened, kept_of, opened_at, numbered_actions, rewriting_in}
use Rattle.stp_rewrite.specs.Views.{numbers_of}
use Rattle.stp_rewrite.proofs.numbering.opened_numbers.Given as goal

abbrev pub invariant-loop-action : goal.invariant-loop-action
invariant-loop-action l = record {
  row : numbers_of l.row ++ map (λ p. opened_at (rewriting_in (plain_task l.task)) p.0 p.1) (enumerate_from (l.action-index + 1) (drop l.action-index (map action_of l.task.actions))) ≡ map (λ p. opened_at (rewriting_in (plain_task l.task)) p.0 p.1) (numbered_actions (plain_task l.task));
  next : l.next ≡ first_opened (plain_task l.task) + length (endings_from 1 (map kept_of (take l.action-index (map action_of l.task.actions))));
}
