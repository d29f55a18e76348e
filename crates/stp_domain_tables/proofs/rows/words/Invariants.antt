use Rattle.std.proofs.Common.{◌≡◌, ◌++◌, drop, map}
use Rattle.stp_domain_parts.specs.Entries.{plains}
use Rattle.stp_domain_tables.specs.Tables.{words_of}
use Rattle.stp_domain_tables.proofs.rows.words.Given as goal

abbrev pub invariant-loop-entry : goal.invariant-loop-entry
invariant-loop-entry l = map (λ w. w.now) l.words.items ++ words_of (plains (drop l.entry-index l.entries)) ≡ words_of (plains l.entries)
