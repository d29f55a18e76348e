use Rattle.std.proofs.Common.{◌≡◌, ◌++◌, drop, map}
use Rattle.stp_schema.specs.Timed.{timed_facts_of}
use Rattle.stp_problem.specs.Events.{open_event}
use Rattle.stp_problem.specs.TimedViews.{timed_items_of}
use Rattle.stp_problem.proofs.events.add_open.Given as goal

abbrev pub invariant-loop-item : goal.invariant-loop-item
invariant-loop-item l = timed_facts_of l.out ++ map open_event (timed_items_of (drop l.item-index l.items)) ≡ timed_facts_of l.fn.out ++ map open_event (timed_items_of l.items)
