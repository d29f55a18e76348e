use Rattle.std.proofs.Common.{◌≡◌, ◌++◌, drop}
use Rattle.stp_problem.specs.Events.{open_items}
use Rattle.stp_problem.specs.TimedViews.{timed_items_of}
use Rattle.stp_problem.proofs.events.open_items.Given as goal

abbrev pub invariant-loop-item : goal.invariant-loop-item
invariant-loop-item l = timed_items_of l.out ++ open_items (timed_items_of (drop l.item-index l.items)) ≡ open_items (timed_items_of l.items)
