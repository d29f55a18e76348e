use Rattle.std.proofs.Common.{◌≡◌, drop, map}
use Rattle.stp_text.specs.Tree.{view}
use Rattle.stp_refusal.specs.First.{first_from}
use Rattle.stp_domain_tables.specs.Tables.{numbers_wrong}
use Rattle.stp_domain_tables.proofs.kinds.judge_numbers.Given as goal

abbrev pub invariant-loop-kind : goal.invariant-loop-kind
invariant-loop-kind l = first_from l.first (numbers_wrong (map view (drop l.kind-index l.kinds))) ≡ first_from l.fn.first (numbers_wrong (map view l.kinds))
