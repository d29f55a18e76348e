use Rattle.std.proofs.Common.{◌||◌, length, All, sym, subst, ap, ◌∙◌}
use Rattle.std.specs.List.{list_any}
use Rattle.std.proofs.lemmas.List.{drop_all}
use Rattle.stp_cond.specs.Truth.{state_of_row}
use Rattle.stp_task.specs.Actions.{action_of}
use Rattle.stp_task.specs.SoundTask.{IsActionInRange}
use Rattle.stp_rewrite.specs.Rows.{writes_at_end}
use Rattle.stp_rewrite.proofs.Lists.{fact_at}
use Rattle.stp_rewrite.proofs.Numbers.{marked_all}
use Rattle.stp_rewrite.proofs.Tasks.{actions_in_range}
use Rattle.stp_rewrite.proofs.numbering.written.Goals as goal

pub mark-requires : goal.mark-requires
mark-requires c =
    subst (λ n. IsActionInRange n c.action-item.result) (sym c.loop-action.invariant.len)
    (fact_at (IsActionInRange (length c.args.task.now.initial)) c.as_slice-action-items.result.now c.loop-action.action-index c.action-item.result c.loop-action-test.true c.action-item.is
    (subst (All (IsActionInRange (length c.args.task.now.initial))) (sym c.as_slice-action-items.ensures) (actions_in_range c.args.task.now)))

pub returns-clause-state : goal.returns-clause-state
returns-clause-state c = λ a.
    let items = c.as_slice-action-items.result.now in
    marked_all c.args.task.now.actions (state_of_row c.loop-action.row a) a
    (ap (λ l. state_of_row c.loop-action.row a || list_any (λ x. writes_at_end (action_of x) a) l) (sym (drop_all c.loop-action.action-index items c.loop-action-test.false))
    ∙ (c.loop-action.invariant.so_far a ∙ ap (list_any (λ x. writes_at_end (action_of x) a)) c.as_slice-action-items.ensures))
