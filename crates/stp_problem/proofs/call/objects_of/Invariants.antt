use Rattle.std.proofs.Common.{◌≡◌, ◌++◌, drop, map}
use Rattle.std.specs.Prelude.{option_map}
use Rattle.stp_text.specs.Tree.{views}
use Rattle.stp_schema.specs.Rows.{thing_of}
use Rattle.stp_tables.specs.Atoms.{numbers_of}
use Rattle.stp_problem.specs.Calls.{objects_of}
use Rattle.stp_problem.proofs.call.objects_of.Given as goal

abbrev pub invariant-loop-item : goal.invariant-loop-item
invariant-loop-item l = option_map (λ rest. numbers_of l.args.items ++ rest) (objects_of (map thing_of l.objects.rows.now) (views (drop l.item-index l.items))) ≡ objects_of (map thing_of l.objects.rows.now) (views l.items)
