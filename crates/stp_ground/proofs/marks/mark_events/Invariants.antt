-- The marks so far, once the events that are left are marked, are those in the end.
use Rattle.std.proofs.Common.{◌≡◌, drop}
use Rattle.stp_schema.specs.Timed.{timed_facts_of}
use Rattle.stp_instance.specs.Numbered.{is_fluent}
use Rattle.stp_ground.specs.Marks.{with_events}
use Rattle.stp_ground.proofs.marks.mark_events.Given as goal

abbrev pub invariant-loop-event : goal.invariant-loop-event
invariant-loop-event l = with_events (timed_facts_of (drop l.event-index l.events)) (is_fluent l.marks.items) ≡ with_events (timed_facts_of l.events) (is_fluent l.fn.marks.items)
