-- The bounds so far and those of the events that are left are those of all.
use Rattle.stp_schema.specs.Timed.{timed_fact_of}
use Rattle.stp_exec.specs.Fitting.{event_bounds}
use Rattle.stp_exec.proofs.Fits.{AreBounds}
use Rattle.stp_exec.proofs.fit.push_events.Given as goal

abbrev pub invariant-loop-event : goal.invariant-loop-event
invariant-loop-event l = AreBounds timed_fact_of event_bounds l.fn.bounds l.bounds l.event-index l.events
