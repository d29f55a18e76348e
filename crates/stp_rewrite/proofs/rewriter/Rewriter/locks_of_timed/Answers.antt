use Rattle.std.proofs.Common.{◌≡◌, ◌+◌, length, sym, ap, ◌∙◌, arith}
use Rattle.stp_task.specs.Actions.{action_of, happening_of}
use Rattle.stp_task.specs.Tasks.{timed_event_of}
use Rattle.stp_rewrite.specs.Counts.{cut, locks_of}
use Rattle.stp_rewrite.specs.Rewriters.{rewriting_by, task_in}
use Rattle.stp_rewrite.proofs.Lists.{mapped_at, mapped_past}
use Rattle.stp_rewrite.proofs.Numbered.{counted, counted_all}
use Rattle.std.proofs.lemmas.List.{length-map}
use Rattle.stp_rewrite.proofs.rewriter.Rewriter.locks_of_timed.Goals as goal

pub loop-place-preserved : goal.loop-place-preserved
loop-place-preserved c =
    let w = c.args.self.now in
    let r = rewriting_by w in
    let i = c.loop-place.place in
    let x = c.timed-item.result in
    let events = (task_in w).timed in
    let k = 1 + length (task_in w).actions in
    let at = mapped_at timed_event_of w.task.now.timed c.as_slice-timed-items.result.now i x c.as_slice-timed-items.ensures c.loop-place-test.true c.timed-item.is in
    let key : c.number_of_timed.result.0 ≡ i + k = c.number_of_timed.ensures ∙ ap (λ n. i + (1 + n)) (sym (length-map w.task.now.actions action_of)) in
    record {
      low = omega (arith, c.sum-count.ensures);
      so_far = counted k events i (timed_event_of x) at.0 at.1 (λ p. locks_of r p.0 p.1.event) c.loop-place.count c.locks_of.result c.sum-count.result _
          (c.locks_of.ensures ∙ ap (λ n. cut (locks_of r n (happening_of x.event))) key) c.sum-count.ensures c.loop-place.invariant.so_far;
    }

pub returns : goal.returns
returns c =
    let w = c.args.self.now in
    counted_all (1 + length (task_in w).actions) (task_in w).timed c.loop-place.place (λ p. locks_of (rewriting_by w) p.0 p.1.event) c.loop-place.count _
    (mapped_past timed_event_of w.task.now.timed c.as_slice-timed-items.result.now c.loop-place.place c.as_slice-timed-items.ensures c.loop-place-test.false) c.loop-place.invariant.low c.loop-place.invariant.so_far
