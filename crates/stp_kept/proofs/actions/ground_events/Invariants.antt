-- The events so far, and those of what is left, are all.
use Rattle.std.proofs.Common.{◌≡◌, ◌++◌, map, drop, length}
use Rattle.std.specs.List.{All}
use Rattle.stp_cond.specs.Events.{IsEventInRange}
use Rattle.stp_schema.specs.Timed.{timed_facts_of}
use Rattle.stp_task.specs.Tasks.{timed_event_of}
use Rattle.stp_kept.specs.KeptTasks.{timed_event_by}
use Rattle.stp_kept.proofs.actions.ground_events.Given as goal

abbrev pub invariant-loop-fact : goal.invariant-loop-fact
invariant-loop-fact l = record {
  events : map timed_event_of l.events ++ map (timed_event_by l.table) (timed_facts_of (drop l.fact-index l.facts)) ≡ map (timed_event_by l.table) (timed_facts_of l.facts);
  in_range : All (λ e. IsEventInRange (length l.table) e.event) l.events;
}
