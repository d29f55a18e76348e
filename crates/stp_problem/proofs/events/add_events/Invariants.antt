use Rattle.std.proofs.Common.{◌≡◌, ◌++◌, drop, map}
use Rattle.stp_schema.specs.Timed.{timed_facts_of}
use Rattle.stp_problem.specs.Events.{event_at}
use Rattle.stp_problem.specs.TimedViews.{timed_items_of, times_of}
use Rattle.stp_problem.proofs.events.add_events.Given as goal

abbrev pub invariant-loop-time : goal.invariant-loop-time
invariant-loop-time l = timed_facts_of l.out ++ map (event_at (timed_items_of l.items)) (times_of (drop l.time-index l.times)) ≡ timed_facts_of l.fn.out ++ map (event_at (timed_items_of l.items)) (times_of l.times)
