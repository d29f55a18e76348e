use Rattle.std.proofs.Common.{◌≡◌, ◌+◌, true, false, Some, sym, ap, ◌∙◌}
use Rattle.stp_task.specs.Actions.{action_of}
use Rattle.stp_rewrite.specs.Refusals.{is_past_limit}
use Rattle.stp_rewrite.specs.Rewriters.{rewriting_by, task_in}
use Rattle.stp_rewrite.proofs.Lists.{mapped_at}
use Rattle.stp_rewrite.proofs.Numbered.{first_here}
use Rattle.stp_rewrite.proofs.rewriter.Rewriter.first_past_limit.Goals as goal

pub returns-then-branch : goal.returns-then-branch
returns-then-branch c =
    let w = c.args.self.now in
    let r = rewriting_by w in
    let i = c.loop-place.place in
    let x = c.action-item.result in
    let acts = (task_in w).actions in
    let at = mapped_at action_of w.task.now.actions c.as_slice-action-items.result.now i x c.as_slice-action-items.ensures c.loop-place-test.true c.action-item.is in
    let test : is_past_limit r (i + 1) (action_of x) ≡ true = ap (λ n. is_past_limit r n (action_of x)) (sym c.number_at-number.ensures) ∙ (sym c.in_ok-is_past_limit.ensures ∙ c.if-branch.true) in
    ap Some c.number_at-number.ensures ∙ (sym (first_here (is_past_limit r) acts i (action_of x) at.0 at.1 true test) ∙ c.loop-place.invariant)

pub loop-place-preserved : goal.loop-place-preserved
loop-place-preserved c =
    let w = c.args.self.now in
    let r = rewriting_by w in
    let i = c.loop-place.place in
    let x = c.action-item.result in
    let acts = (task_in w).actions in
    let at = mapped_at action_of w.task.now.actions c.as_slice-action-items.result.now i x c.as_slice-action-items.ensures c.loop-place-test.true c.action-item.is in
    let test : is_past_limit r (i + 1) (action_of x) ≡ false = ap (λ n. is_past_limit r n (action_of x)) (sym c.number_at-number.ensures) ∙ (sym c.in_ok-is_past_limit.ensures ∙ c.if-branch.false) in
    sym (first_here (is_past_limit r) acts i (action_of x) at.0 at.1 false test) ∙ c.loop-place.invariant
