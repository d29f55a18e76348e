use Rattle.std.proofs.Common.{◌≡◌, drop}
use Rattle.stp_refusal.specs.First.{first_from}
use Rattle.stp_domain_parts.specs.Entries.{plains}
use Rattle.stp_domain_tables.specs.Declarations.{parents_wrong}
use Rattle.stp_domain_tables.proofs.declarations.judge_parents.Given as goal

abbrev pub invariant-loop-entry : goal.invariant-loop-entry
invariant-loop-entry l = first_from l.first (parents_wrong (plains (drop l.entry-index l.entries))) ≡ first_from l.fn.first (parents_wrong (plains l.entries))
