-- What is marked so far, and what the ends of the actions that are left write, is what all write.
use Rattle.std.proofs.Common.{◌≡◌, ℕ, ◌||◌, length, drop}
use Rattle.std.specs.List.{list_any}
use Rattle.stp_cond.specs.Truth.{state_of_row}
use Rattle.stp_task.specs.Actions.{action_of}
use Rattle.stp_rewrite.specs.Rows.{writes_at_end}
use Rattle.stp_rewrite.proofs.numbering.written.Given as goal

abbrev pub invariant-loop-action : goal.invariant-loop-action
invariant-loop-action l = record {
  len : length l.row ≡ length l.task.initial;
  so_far : (a : ℕ) → (state_of_row l.row a || list_any (λ x. writes_at_end (action_of x) a) (drop l.action-index l.action-items)) ≡ list_any (λ x. writes_at_end (action_of x) a) l.action-items;
}
