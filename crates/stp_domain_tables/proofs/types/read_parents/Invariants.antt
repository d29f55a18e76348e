use Rattle.std.proofs.Common.{◌≡◌, drop, length}
use Rattle.stp_domain_parts.specs.Entries.{plains}
use Rattle.stp_domain_tables.specs.Types.{with_parents, parents_in}
use Rattle.stp_domain_tables.proofs.types.read_parents.Given as goal

abbrev pub invariant-loop-entry : goal.invariant-loop-entry
invariant-loop-entry l = record {
  len : length l.parents.items ≡ length l.types;
  same : with_parents l.types l.parents.items (plains (drop l.entry-index l.entries)) ≡ parents_in l.types (plains l.entries);
}
