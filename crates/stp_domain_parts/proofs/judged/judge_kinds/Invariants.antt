use Rattle.std.proofs.Common.{◌≡◌, drop}
use Rattle.stp_refusal.specs.First.{first_from}
use Rattle.stp_domain_parts.specs.Entries.{plains}
use Rattle.stp_domain_parts.specs.Judged.{shapes_wrong, kinds_unknown}
use Rattle.stp_domain_parts.proofs.judged.judge_kinds.Given as goal

abbrev pub invariant-loop-entry : goal.invariant-loop-entry
invariant-loop-entry l = first_from l.first (kinds_unknown l.code l.types (plains (drop l.entry-index l.entries))) ≡ first_from l.fn.first (kinds_unknown l.code l.types (plains l.entries))
