use Rattle.std.proofs.Common.{◌≡◌, ◌++◌, drop, map}
use Rattle.stp_frac.specs.Fractions.{value_of}
use Rattle.stp_schema.specs.Timed.{literal_of}
use Rattle.stp_problem.specs.Events.{literals_at}
use Rattle.stp_problem.specs.TimedViews.{timed_items_of}
use Rattle.stp_problem.proofs.events.literals_at.Given as goal

abbrev pub invariant-loop-item : goal.invariant-loop-item
invariant-loop-item l = map literal_of l.out.items ++ literals_at (value_of l.time) (timed_items_of (drop l.item-index l.items)) ≡ literals_at (value_of l.time) (timed_items_of l.items)
