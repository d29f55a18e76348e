use Rattle.std.proofs.Common.{◌≡◌, ◌++◌, drop, map}
use Rattle.stp_domain_parts.specs.Entries.{plains}
use Rattle.stp_schema.specs.Rows.{thing_of}
use Rattle.stp_problem.specs.Objects.{declared_objects}
use Rattle.stp_problem.proofs.objects.rows_of.Given as goal

abbrev pub invariant-loop-entry : goal.invariant-loop-entry
invariant-loop-entry l = map thing_of l.rows ++ declared_objects l.types (plains (drop l.entry-index l.entries)) ≡ declared_objects l.types (plains l.entries)
