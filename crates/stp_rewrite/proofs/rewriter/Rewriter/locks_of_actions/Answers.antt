use Rattle.std.proofs.Common.{ap, ◌∙◌, arith}
use Rattle.stp_task.specs.Actions.{action_of}
use Rattle.stp_rewrite.specs.Counts.{cut, locks_of_action}
use Rattle.stp_rewrite.specs.Rewriters.{rewriting_by, task_in}
use Rattle.stp_rewrite.proofs.Lists.{mapped_at, mapped_past}
use Rattle.stp_rewrite.proofs.Numbered.{counted, counted_all}
use Rattle.stp_rewrite.proofs.rewriter.Rewriter.locks_of_actions.Goals as goal

pub loop-place-preserved : goal.loop-place-preserved
loop-place-preserved c =
    let w = c.args.self.now in
    let r = rewriting_by w in
    let i = c.loop-place.place in
    let x = c.action-item.result in
    let acts = (task_in w).actions in
    let at = mapped_at action_of w.task.now.actions c.as_slice-action-items.result.now i x c.as_slice-action-items.ensures c.loop-place-test.true c.action-item.is in
    record {
      low = omega (arith, c.sum-count.ensures);
      so_far = counted 1 acts i (action_of x) at.0 at.1 (λ p. locks_of_action r p.0 p.1) c.loop-place.count c.locks_of_action.result c.sum-count.result _
          (c.locks_of_action.ensures ∙ ap (λ n. cut (locks_of_action r n (action_of x))) c.number_at.ensures) c.sum-count.ensures c.loop-place.invariant.so_far;
    }

pub returns : goal.returns
returns c =
    let w = c.args.self.now in
    counted_all 1 (task_in w).actions c.loop-place.place (λ p. locks_of_action (rewriting_by w) p.0 p.1) c.loop-place.count _
    (mapped_past action_of w.task.now.actions c.as_slice-action-items.result.now c.loop-place.place c.as_slice-action-items.ensures c.loop-place-test.false) c.loop-place.invariant.low c.loop-place.invariant.so_far
