use Rattle.std.proofs.Common.{drop}
use Rattle.stp_domain_parts.specs.Then.{Goes}
use Rattle.stp_problem.specs.Events.{times_from, times_read}
use Rattle.stp_problem.specs.TimedViews.{timed_items_of, times_of}
use Rattle.stp_problem.proofs.times.read_times.Given as goal

abbrev pub invariant-loop-item : goal.invariant-loop-item
invariant-loop-item l = Goes l.fn.first l.first (times_from (times_of l.times.items) (timed_items_of (drop l.item-index l.items))) (times_read (timed_items_of l.items))
