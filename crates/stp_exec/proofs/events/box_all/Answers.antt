use Rattle.std.proofs.Common.{◌≡◌, ℕ, ◌+◌, ◌<◌, true, List, length, map, get_or, sym, ap, subst, ◌∙◌, arith}
use Rattle.std.specs.List.{All}
use Rattle.std.proofs.Math.ListN.{get_or-map}
use Rattle.std.proofs.lemmas.List.{length-map}
use Rattle.std.proofs.lemmas.List.Elements.{All-push}
use Rattle.stp_schema.specs.declared.timed.TimedFact.{TimedFact}
use Rattle.stp_schema.specs.Timed.{PlainTimedFact, IsTimedFact, timed_fact_of}
use Rattle.stp_happen.specs.declared.boxes.BoxTimed.{BoxTimed}
use Rattle.stp_happen.specs.SoundBox.{IsBoxTimed}
use Rattle.stp_happen.specs.StepViews.{plain_timed}
use Rattle.stp_exec.specs.Timed.{event_lies_on}
use Rattle.stp_exec.specs.Plans.{timed_in}
use Rattle.stp_exec.proofs.Making.{AreMade, made_more, made_all}
use Rattle.stp_exec.proofs.events.box_all.Goals as goal

-- what holds of all events holds of one
at_event : (P : PlainTimedFact → Type 0) (events : List TimedFact) (i : ℕ) (e : TimedFact) → All P (map timed_fact_of events) → i < length events → get_or events i e ≡ e → P (timed_fact_of e)
at_event P events i e h k is =
    subst P (get_or-map timed_fact_of events i e ∙ ap timed_fact_of is) (h i (timed_fact_of e) (omega (arith, length-map events timed_fact_of)))

pub box_event-requires-clause-kept : goal.box_event-requires-clause-kept
box_event-requires-clause-kept c = at_event IsTimedFact c.args.events.now c.loop-event.event-index c.event-item.result c.requires.kept (omega arith) (sym c.event-item.is)

pub box_event-requires-clause-lies : goal.box_event-requires-clause-lies
box_event-requires-clause-lies c = at_event (λ e. event_lies_on c.args.grid e ≡ true) c.args.events.now c.loop-event.event-index c.event-item.result c.requires.lie (omega arith) (sym c.event-item.is)

pub loop-event-preserved : goal.loop-event-preserved
loop-event-preserved c =
    let made = timed_in c.args.table.now c.args.grid in
    let i = c.loop-event.event-index in
    record {
      stand = subst (λ (l : List BoxTimed). AreMade timed_fact_of made plain_timed l (i + 1) c.args.events.now) (sym c.in_ok-push.ensures.ok)
          (made_more timed_fact_of made plain_timed c.loop-event.timed c.in_ok-box_event.field-0 i c.args.events.now c.event-item.result (omega arith) (sym c.event-item.is) c.in_ok-box_event.ensures.stands c.loop-event.invariant.stand);
      sound = subst (All (IsBoxTimed c.args.grid (length c.args.table.now))) (sym c.in_ok-push.ensures.ok)
          (All-push (IsBoxTimed c.args.grid (length c.args.table.now)) c.loop-event.timed c.in_ok-box_event.field-0 c.loop-event.invariant.sound c.in_ok-box_event.ensures.sound);
    }

pub returns-clause-stand : goal.returns-clause-stand
returns-clause-stand c =
    made_all timed_fact_of (timed_in c.args.table.now c.args.grid) plain_timed c.loop-event.timed c.loop-event.event-index c.args.events.now (omega arith) c.loop-event.invariant.stand
