use Rattle.std.proofs.Common.{◌≡◌, ℕ, List, drop}
use Rattle.stp_refusal.specs.First.{first_from}
use Rattle.stp_domain_parts.specs.Entries.{plains}
use Rattle.stp_types.specs.Loops.{MarksLoops}
use Rattle.stp_domain_tables.specs.Types.{loops_wrong}
use Rattle.stp_domain_tables.proofs.types.judge_loops.Given as goal

abbrev pub invariant-loop-entry : goal.invariant-loop-entry
invariant-loop-entry l = (parents : List ℕ) → MarksLoops parents l.looped → first_from l.first (loops_wrong l.types parents (plains (drop l.entry-index l.entries))) ≡ first_from l.fn.first (loops_wrong l.types parents (plains l.entries))
