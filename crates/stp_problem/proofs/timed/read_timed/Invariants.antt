use Rattle.std.proofs.Common.{drop}
use Rattle.stp_text.specs.Tree.{views}
use Rattle.stp_domain_parts.specs.Then.{Goes}
use Rattle.stp_schema.specs.Known.{known}
use Rattle.stp_problem.specs.TimedItems.{timed_items_read, timed_read}
use Rattle.stp_problem.specs.TimedViews.{timed_items_of}
use Rattle.stp_problem.proofs.timed.read_timed.Given as goal

abbrev pub invariant-loop-item : goal.invariant-loop-item
invariant-loop-item l = Goes l.fn.first l.first (timed_items_read (known l.declared l.objects.rows.now) (timed_items_of l.out) (views (drop l.item-index l.items))) (timed_read (known l.declared l.objects.rows.now) (views l.items))
