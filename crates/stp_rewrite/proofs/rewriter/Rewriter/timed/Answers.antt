use Rattle.std.proofs.Common.{◌≡◌, ◌+◌, ◌++◌, ◌∷◌, [], All, length, map, sym, ap, ◌∙◌, subst}
use Rattle.stp_task.specs.Actions.{action_of, happening_of}
use Rattle.stp_task.specs.Tasks.{timed_event_of}
use Rattle.stp_rewrite.specs.RewrittenTasks.{rewritten_timed}
use Rattle.stp_rewrite.specs.Rewriters.{plain_in, rewriting_by, task_in}
use Rattle.stp_rewrite.proofs.Lists.{fact_at, mapped_at, mapped_past}
use Rattle.stp_rewrite.proofs.Numbered.{made_all, made_one}
use Rattle.std.proofs.lemmas.List.{length-map, map-append}
use Rattle.stp_cond.specs.Events.{IsEventInRange}
use Rattle.stp_frac.specs.Fractions.{value_of}
use Rattle.stp_task.specs.declared.task.TimedEvent.{TimedEvent}
use Rattle.stp_rewriting.specs.Rewritten.{Settled}
use Rattle.stp_rewrite.specs.Happenings.{happening}
use Rattle.stp_rewrite.proofs.Numbered.{timed_with}
use Rattle.stp_rewrite.proofs.Tasks.{timed_in_range}
use Rattle.stp_rewrite.proofs.rewriter.Rewriter.timed.Goals as goal

pub settled-requires : goal.settled-requires
settled-requires c =
    let w = c.args.self.now in
    fact_at (λ t. IsEventInRange (plain_in w) t.event) c.as_slice-timed-items.result.now c.loop-place.place c.timed-item.result c.loop-place-test.true c.timed-item.is
    (subst (All (λ t. IsEventInRange (plain_in w) t.event)) (sym c.as_slice-timed-items.ensures) (timed_in_range w.task.now))

pub loop-place-preserved : goal.loop-place-preserved
loop-place-preserved c =
    let w = c.args.self.now in
    let r = rewriting_by w in
    let i = c.loop-place.place in
    let x = c.timed-item.result in
    let events = (task_in w).timed in
    let k = 1 + length (task_in w).actions in
    let at = mapped_at timed_event_of w.task.now.timed c.as_slice-timed-items.result.now i x c.as_slice-timed-items.ensures c.loop-place-test.true c.timed-item.is in
    let key : c.number_of_timed-number.result.0 ≡ i + k = c.number_of_timed-number.ensures ∙ ap (λ n. i + (1 + n)) (sym (length-map w.task.now.actions action_of)) in
    let new : TimedEvent = record { at = x.at; event = c.in_ok-event.event } in
    made_one k events i (timed_event_of x) at.0 at.1 (λ p. rewritten_timed r p.0 p.1) (map timed_event_of c.loop-place.made) (map timed_event_of c.push.new.self) _
    (ap (map timed_event_of) c.in_ok-push.ensures.ok ∙ (map-append timed_event_of c.loop-place.made (new ∷ [])
    ∙ ap (λ h. map timed_event_of c.loop-place.made ++ timed_with (value_of x.at) h ∷ []) (c.in_ok-event.ensures ∙ ap (λ n. happening r Settled n (happening_of x.event)) key)))
    c.loop-place.invariant

pub returns : goal.returns
returns c =
    let w = c.args.self.now in
    made_all (1 + length (task_in w).actions) (task_in w).timed c.loop-place.place (λ p. rewritten_timed (rewriting_by w) p.0 p.1) (map timed_event_of c.loop-place.made) _
    (mapped_past timed_event_of w.task.now.timed c.as_slice-timed-items.result.now c.loop-place.place c.as_slice-timed-items.ensures c.loop-place-test.false) c.loop-place.invariant
