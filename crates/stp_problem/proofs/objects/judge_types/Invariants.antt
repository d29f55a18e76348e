use Rattle.std.proofs.Common.{◌≡◌, drop}
use Rattle.stp_refusal.specs.First.{first_from}
use Rattle.stp_domain_parts.specs.Entries.{plains}
use Rattle.stp_problem.specs.Objects.{types_wrong}
use Rattle.stp_problem.proofs.objects.judge_types.Given as goal

abbrev pub invariant-loop-entry : goal.invariant-loop-entry
invariant-loop-entry l = first_from l.first (types_wrong l.types (plains (drop l.entry-index l.entries))) ≡ first_from l.fn.first (types_wrong l.types (plains l.entries))
