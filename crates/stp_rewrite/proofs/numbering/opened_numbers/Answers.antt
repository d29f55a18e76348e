use Rattle.std.proofs.Common.{◌≡◌, ◌+◌, ◌<◌, ◌≤◌, get_or, length, map, refl, sym, ap, ◌∙◌, subst, is_some}
use Rattle.std.proofs.lemmas.List.{length-map, take_all}
use Rattle.std.specs.List.{enumerate_from}
use Rattle.stp_task.specs.Actions.{action_of, happening_of}
use Rattle.stp_task.specs.Tasks.{plain_task}
use Rattle.stp_rewriting.specs.Numbering.{endings_from}
use Rattle.stp_rewrite.specs.RewrittenTasks.{end_of, first_opened, kept_of, opened_at, rewriting_in, numbered_actions}
use Rattle.stp_rewrite.specs.Views.{after_number, numbers_of}
use Rattle.stp_rewrite.proofs.Lists.{all_done}
use Rattle.stp_rewrite.proofs.Numbers.{action_at, all_numbers, next_opened, opened_step, some_mapped}
use Rattle.stp_rewrite.proofs.Tasks.{each}
use Rattle.stp_rewrite.proofs.numbering.opened_numbers.Goals as goal

pub loop-action-preserved : goal.loop-action-preserved
loop-action-preserved c =
    let t = plain_task c.args.task.now in
    let x = c.action-item.result in
    let i = c.loop-action.action-index in
    let h = c.loop-action.invariant in
    let below : i < length c.args.task.now.actions = subst (λ l. i < length l) c.as_slice-action-items.ensures c.loop-action-test.true in
    let l : i < length t.actions = subst (λ n. i < n) (sym (length-map c.args.task.now.actions action_of)) below in
    let at = action_at c.args.task.now.actions i x below (subst (λ l. x ≡ get_or l i x) c.as_slice-action-items.ensures c.action-item.is) in
    let is : c.is_some.result ≡ is_some (end_of (get_or t.actions i (action_of x))) = c.is_some.ensures ∙ (some_mapped happening_of c.uncertain_end.result ∙ (ap is_some c.uncertain_end.ensures.end ∙ ap (λ a. is_some (end_of a)) (sym at))) in
    record {
      row = opened_step t i (action_of x) (numbers_of c.loop-action.row) (numbers_of c.add_number.new.row) (map (λ p. opened_at (rewriting_in t) p.0 p.1) (numbered_actions t)) c.loop-action.next c.is_some.result l is h.next c.in_ok-add_number.ensures.row h.row;
      next = c.in_ok-add_number.ensures.next ∙ (ap (λ b. after_number b c.loop-action.next) is ∙ (ap (after_number (is_some (end_of (get_or t.actions i (action_of x))))) h.next ∙ next_opened t i (action_of x) l));
    }

pub returns-clause-row : goal.returns-clause-row
returns-clause-row c =
    let t = plain_task c.args.task.now in
    all_done (λ l. map (λ p. opened_at (rewriting_in t) p.0 p.1) (enumerate_from (c.loop-action.action-index + 1) l)) (numbers_of c.loop-action.row) (map (λ p. opened_at (rewriting_in t) p.0 p.1) (numbered_actions t)) t.actions c.loop-action.action-index refl
    (subst (λ n. n ≤ c.loop-action.action-index) (ap length c.as_slice-action-items.ensures ∙ sym (length-map c.args.task.now.actions action_of)) c.loop-action-test.false) c.loop-action.invariant.row

pub returns-clause-next : goal.returns-clause-next
returns-clause-next c =
    let t = plain_task c.args.task.now in
    c.loop-action.invariant.next
    ∙ (ap (λ l. first_opened t + length (endings_from 1 (map kept_of l)))
    (take_all c.loop-action.action-index t.actions (subst (λ n. n ≤ c.loop-action.action-index) (ap length c.as_slice-action-items.ensures ∙ sym (length-map c.args.task.now.actions action_of)) c.loop-action-test.false))
    ∙ all_numbers t (each c.args.task.now))
