use Rattle.std.proofs.Common.{drop, map, []}
use Rattle.stp_text.specs.Tree.{views}
use Rattle.stp_domain_parts.specs.Then.{Goes}
use Rattle.stp_schema.specs.Known.{known}
use Rattle.stp_schema.specs.Timed.{literal_of}
use Rattle.stp_problem.specs.TimedItems.{literals_read}
use Rattle.stp_problem.proofs.timed.read_literals.Given as goal

abbrev pub invariant-loop-item : goal.invariant-loop-item
invariant-loop-item l = Goes l.fn.first l.first (literals_read (known l.declared l.objects.rows.now) (map literal_of l.literals) (views (drop l.item-index l.items))) (literals_read (known l.declared l.objects.rows.now) [] (views l.items))
