use Rattle.std.proofs.Common.{◌≡◌, drop, map}
use Rattle.stp_schema.specs.Rows.{thing_of, object_names_of}
use Rattle.stp_domain_tables.specs.Objects.{with_objects}
use Rattle.stp_problem.proofs.objects.add_objects.Given as goal

abbrev pub invariant-loop-row : goal.invariant-loop-row
invariant-loop-row l = record {
  rows : with_objects (map thing_of l.rows) (map thing_of (drop l.row-index l.more)) ≡ with_objects (map thing_of l.fn.rows) (map thing_of l.more);
  names : l.names ≡ object_names_of l.rows;
}
