-- The times so far, and those of what is left, are those of all.
use Rattle.std.proofs.Common.{◌≡◌, ◌++◌, map, drop}
use Rattle.stp_frac.specs.Fractions.{value_of}
use Rattle.stp_schema.specs.Timed.{timed_facts_of}
use Rattle.stp_kept.specs.KeptTasks.{event_times}
use Rattle.stp_kept.proofs.timing.put_times.Given as goal

abbrev pub invariant-loop-event : goal.invariant-loop-event
invariant-loop-event l = map value_of l.times.items ++ event_times (timed_facts_of (drop l.event-index l.events)) ≡ map value_of l.fn.times.items ++ event_times (timed_facts_of l.events)
