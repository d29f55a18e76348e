use Rattle.std.proofs.Common.{◌≡◌, ◌++◌, drop, map}
use Rattle.stp_domain_tables.specs.Named.{action_names_of}
use Rattle.stp_domain_tables.specs.ActionViews.{action_signature_of}
use Rattle.stp_domain_tables.specs.ActionRows.{action_shape_of, row_names_of}
use Rattle.stp_domain_tables.specs.Tables.{action_shape}
use Rattle.stp_domain_tables.proofs.rows.action_rows.Given as goal

abbrev pub invariant-loop-declaration : goal.invariant-loop-declaration
invariant-loop-declaration l = record {
  shapes : map action_shape_of l.rows.items ++ map (action_shape l.types) (map action_signature_of (drop l.declaration-index l.declarations)) ≡ map (action_shape l.types) (map action_signature_of l.declarations);
  names : row_names_of l.rows.items ++ action_names_of (drop l.declaration-index l.declarations) ≡ action_names_of l.declarations;
}
