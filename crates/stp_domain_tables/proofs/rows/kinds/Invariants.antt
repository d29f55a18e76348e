use Rattle.std.proofs.Common.{◌≡◌, ◌++◌, drop}
use Rattle.stp_domain_parts.specs.Entries.{plains}
use Rattle.stp_domain_tables.specs.Tables.{kinds_of}
use Rattle.stp_domain_tables.proofs.rows.kinds.Given as goal

abbrev pub invariant-loop-entry : goal.invariant-loop-entry
invariant-loop-entry l = l.kinds.items ++ kinds_of l.types (plains (drop l.entry-index l.entries)) ≡ kinds_of l.types (plains l.entries)
