use Rattle.std.proofs.Common.{map, length, arith}
use Rattle.stp_cond.specs.Events.{IsEventInRange}
use Rattle.stp_schema.specs.Timed.{timed_fact_of, timed_facts_of}
use Rattle.stp_task.specs.declared.task.TimedEvent.{TimedEvent}
use Rattle.stp_task.specs.Tasks.{timed_event_of}
use Rattle.stp_kept.specs.KeptTasks.{timed_event_by}
use Rattle.stp_kept.proofs.NumberedInstances.{all_with, made_more}
use Rattle.stp_kept.proofs.actions.ground_events.Goals as goal

pub loop-fact-preserved : goal.loop-fact-preserved
loop-fact-preserved c =
    let make = timed_event_by c.args.table.now in
    record {
      events = made_more timed_event_of make timed_fact_of c.args.facts.now c.loop-fact.fact-index c.fact-item.result c.loop-fact.events c.push.new.self c.in_ok-event.event (map make (timed_facts_of c.args.facts.now)) (omega arith) c.fact-item.is c.in_ok-event.ensures.event c.in_ok-push.ensures.ok c.loop-fact.invariant.events;
      in_range = all_with (λ (e : TimedEvent). IsEventInRange (length c.args.table.now) e.event) c.loop-fact.events c.push.new.self c.in_ok-event.event c.in_ok-push.ensures.ok c.loop-fact.invariant.in_range c.in_ok-event.ensures.in_range;
    }
