use Rattle.std.proofs.Common.{◌<◌, ◌++◌, ◌∷◌, [], None, All, length, map, get_or, option_map, sym, ap, ◌∙◌, subst}
use Rattle.stp_task.specs.Actions.{action_of}
use Rattle.stp_rewrite.specs.Refusals.{is_past_limit}
use Rattle.stp_rewrite.specs.RewrittenTasks.{opened_at, rewritten_action}
use Rattle.stp_rewrite.specs.Rewriters.{plain_in, rewriting_by, task_in}
use Rattle.stp_rewrite.specs.Views.{rewritten_action_of}
use Rattle.stp_rewrite.proofs.Lists.{fact_at, mapped_at, mapped_past}
use Rattle.stp_rewrite.proofs.Numbered.{made_all, made_one, none_here}
use Rattle.std.proofs.lemmas.List.{map-append}
use Rattle.stp_base.specs.declared.ids.AtomId.{AtomId}
use Rattle.stp_task.specs.SoundTask.{IsActionInRange}
use Rattle.stp_rewrite.proofs.Ends.{as_many, opened_there}
use Rattle.stp_rewrite.proofs.Tasks.{actions_in_range}
use Rattle.stp_rewrite.proofs.rewriter.Rewriter.actions.Goals as goal

pub bounds-opened-place : goal.bounds-opened-place
bounds-opened-place c =
    let w = c.args.self.now in
    let r = rewriting_by w in
    let i = c.loop-place.place in
    let x = c.action-item.result in
    let acts = (task_in w).actions in
    let at = mapped_at action_of w.task.now.actions c.as_slice-action-items.result.now i x c.as_slice-action-items.ensures c.loop-place-test.true c.action-item.is in
    subst (λ n. i < n) (sym (ap length c.as_slice-opened.ensures ∙ as_many (task_in w) w.opened w.numbered)) at.0

pub action-requires-clause-in_range : goal.action-requires-clause-in_range
action-requires-clause-in_range c =
    let w = c.args.self.now in
    fact_at (IsActionInRange (plain_in w)) c.as_slice-action-items.result.now c.loop-place.place c.action-item.result c.loop-place-test.true c.action-item.is
    (subst (All (IsActionInRange (plain_in w))) (sym c.as_slice-action-items.ensures) (actions_in_range w.task.now))

pub action-requires-clause-opened : goal.action-requires-clause-opened
action-requires-clause-opened c =
    let w = c.args.self.now in
    let r = rewriting_by w in
    let i = c.loop-place.place in
    let x = c.action-item.result in
    let acts = (task_in w).actions in
    let at = mapped_at action_of w.task.now.actions c.as_slice-action-items.result.now i x c.as_slice-action-items.ensures c.loop-place-test.true c.action-item.is in
    ap (λ l. option_map (λ (o : AtomId). o.0) (get_or l i None)) c.as_slice-opened.ensures
    ∙ (opened_there (task_in w) w.opened i None (action_of x) at.0 w.numbered
    ∙ (ap (λ n. opened_at r n (get_or acts i (action_of x))) (sym c.number_at-number.ensures) ∙ ap (opened_at r c.number_at-number.result.0) at.1))

pub action-requires-clause-few : goal.action-requires-clause-few
action-requires-clause-few c =
    let w = c.args.self.now in
    let r = rewriting_by w in
    let i = c.loop-place.place in
    let x = c.action-item.result in
    let acts = (task_in w).actions in
    let at = mapped_at action_of w.task.now.actions c.as_slice-action-items.result.now i x c.as_slice-action-items.ensures c.loop-place-test.true c.action-item.is in
    ap (λ n. is_past_limit r n (action_of x)) c.number_at-number.ensures ∙ (none_here (is_past_limit r) acts i (action_of x) at.0 at.1 c.loop-place.invariant.few).0

pub loop-place-preserved : goal.loop-place-preserved
loop-place-preserved c =
    let w = c.args.self.now in
    let r = rewriting_by w in
    let i = c.loop-place.place in
    let x = c.action-item.result in
    let acts = (task_in w).actions in
    let at = mapped_at action_of w.task.now.actions c.as_slice-action-items.result.now i x c.as_slice-action-items.ensures c.loop-place-test.true c.action-item.is in
    record {
      few = (none_here (is_past_limit r) acts i (action_of x) at.0 at.1 c.loop-place.invariant.few).1;
      so_far = made_one 1 acts i (action_of x) at.0 at.1 (λ p. rewritten_action r p.0 p.1) (map rewritten_action_of c.loop-place.made) (map rewritten_action_of c.push.new.self) _
          (ap (map rewritten_action_of) c.in_ok-push.ensures.ok ∙ (map-append rewritten_action_of c.loop-place.made (c.in_ok-action.field-0 ∷ [])
          ∙ ap (λ a. map rewritten_action_of c.loop-place.made ++ a ∷ []) (c.in_ok-action.ensures ∙ ap (λ n. rewritten_action r n (action_of x)) c.number_at-number.ensures)))
          c.loop-place.invariant.so_far;
    }

pub returns : goal.returns
returns c =
    let w = c.args.self.now in
    made_all 1 (task_in w).actions c.loop-place.place (λ p. rewritten_action (rewriting_by w) p.0 p.1) (map rewritten_action_of c.loop-place.made) _
    (mapped_past action_of w.task.now.actions c.as_slice-action-items.result.now c.loop-place.place c.as_slice-action-items.ensures c.loop-place-test.false) c.loop-place.invariant.so_far
