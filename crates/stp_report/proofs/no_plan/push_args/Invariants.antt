-- The names so far are appended, and those that are left will be.
use Rattle.std.proofs.Common.{◌≡◌, ◌++◌, drop, map}
use Rattle.stp_schema.specs.Rows.{thing_of}
use Rattle.stp_tables.specs.Atoms.{numbers_of}
use Rattle.stp_report.specs.NoPlan.{args_text}
use Rattle.stp_report.proofs.no_plan.push_args.Given as goal

abbrev pub invariant-loop-arg : goal.invariant-loop-arg
invariant-loop-arg l = l.out ++ args_text (map thing_of l.objects) (numbers_of (drop l.arg-index l.args)) ≡ l.fn.out ++ args_text (map thing_of l.objects) (numbers_of l.args)
