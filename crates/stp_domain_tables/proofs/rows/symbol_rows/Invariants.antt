use Rattle.std.proofs.Common.{◌≡◌, ◌++◌, drop, map}
use Rattle.stp_schema.specs.Rows.{shape_of, symbol_names_of}
use Rattle.stp_domain_tables.specs.Named.{names_of}
use Rattle.stp_domain_tables.specs.Views.{signature_of}
use Rattle.stp_domain_tables.specs.Tables.{shape}
use Rattle.stp_domain_tables.proofs.rows.symbol_rows.Given as goal

abbrev pub invariant-loop-declaration : goal.invariant-loop-declaration
invariant-loop-declaration l = record {
  shapes : map shape_of l.rows.items ++ map (shape l.types) (map signature_of (drop l.declaration-index l.declarations)) ≡ map (shape l.types) (map signature_of l.declarations);
  names : symbol_names_of l.rows.items ++ names_of (drop l.declaration-index l.declarations) ≡ names_of l.declarations;
}
