-- The grid so far and that of the events that are left are that of all.
use Rattle.std.proofs.Common.{◌≤◌}
use Rattle.stp_schema.specs.Timed.{timed_fact_of}
use Rattle.stp_exec.specs.Timed.{event_denominators}
use Rattle.stp_exec.proofs.Joining.{IsJoined}
use Rattle.stp_exec.proofs.grid.join_events.Given as goal

abbrev pub invariant-loop-event : goal.invariant-loop-event
invariant-loop-event l = record {
  joined : IsJoined timed_fact_of event_denominators l.fn.grid l.joint l.event-index l.events;
  low : 1 ≤ l.joint;
  high : l.joint ≤ 999999999;
}
