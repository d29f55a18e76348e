-- There is a list for each atom, and the actions so far stand at the atoms that they read.
use Rattle.std.proofs.Common.{◌≡◌, ℕ, ◌<◌, true, length, get_or}
use Rattle.stp_task.specs.declared.action.GroundAction.{GroundAction}
use Rattle.stp_task.specs.Actions.{action_of}
use Rattle.stp_relax.specs.Watched.{is_read, stands_at}
use Rattle.stp_relax.proofs.watching.readers.Given as goal

abbrev pub invariant-loop : goal.invariant-loop
invariant-loop l = length l.readers.items ≡ l.counter

abbrev pub invariant-loop-number : goal.invariant-loop-number
invariant-loop-number l = record {
  size : length l.readers.items ≡ length l.task.initial;
  watched : (j : ℕ) (d : GroundAction) (a : ℕ) → j < l.number → is_read (action_of (get_or l.action-items j d)) a ≡ true → stands_at l.readers.items a j ≡ true;
}
