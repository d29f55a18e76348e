use Rattle.std.proofs.Common.{◌≡◌, drop}
use Rattle.stp_domain_parts.specs.Entries.{plains}
use Rattle.stp_schema.specs.Rows.{object_names_of}
use Rattle.stp_domain_tables.specs.Rows.{things_of}
use Rattle.stp_domain_tables.specs.Tables.{with_things, no_things}
use Rattle.stp_domain_tables.proofs.rows.read_objects.Given as goal

abbrev pub invariant-loop-entry : goal.invariant-loop-entry
invariant-loop-entry l = record {
  things : with_things l.types (things_of l.names l.found) (plains (drop l.entry-index l.entries)) ≡ with_things l.types no_things (plains l.entries);
  named : l.names ≡ object_names_of l.found;
}
