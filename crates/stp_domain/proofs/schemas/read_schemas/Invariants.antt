use Rattle.std.proofs.Common.{◌≡◌, ◌++◌, map, drop}
use Rattle.stp_refusal.specs.Read.{Continues}
use Rattle.stp_schema.specs.Known.{known}
use Rattle.stp_schema.specs.Schemas.{schema_of, schema_names_of}
use Rattle.stp_domain_tables.specs.ActionRows.{action_shape_of, row_names_of}
use Rattle.stp_domain.specs.Schemas.{schemas_read}
use Rattle.stp_domain.proofs.schemas.read_schemas.Given as goal

abbrev pub invariant-loop-row : goal.invariant-loop-row
invariant-loop-row l = record {
  value : Continues l.fn.first l.first (map schema_of l.schemas.items) (schemas_read (known l.declared l.objects.rows.now) (map action_shape_of (drop l.row-index l.rows))) (schemas_read (known l.declared l.objects.rows.now) (map action_shape_of l.rows));
  names : schema_names_of l.schemas.items ++ row_names_of (drop l.row-index l.rows) ≡ row_names_of l.rows;
}
