use Rattle.std.proofs.Common.{◌≡◌, drop}
use Rattle.stp_refusal.specs.First.{first_from}
use Rattle.stp_domain_parts.specs.Entries.{plains}
use Rattle.stp_domain_parts.specs.Judged.{names_after, names_wrong}
use Rattle.stp_domain_parts.proofs.judged.judge_names.Given as goal

abbrev pub invariant-loop-entry : goal.invariant-loop-entry
invariant-loop-entry l = record {
  names : names_after l.seen (plains (drop l.entry-index l.entries)) ≡ names_after l.fn.seen (plains l.entries);
  found : first_from l.first (names_wrong l.kind l.misspelled l.repeated l.seen (plains (drop l.entry-index l.entries))) ≡ first_from l.fn.first (names_wrong l.kind l.misspelled l.repeated l.fn.seen (plains l.entries));
}
