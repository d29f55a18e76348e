use Rattle.std.proofs.Common.{◌≡◌, drop, map}
use Rattle.stp_refusal.specs.First.{first_from}
use Rattle.stp_domain_tables.specs.Views.{signature_of}
use Rattle.stp_domain_tables.specs.Tables.{symbols_unknown}
use Rattle.stp_domain_tables.proofs.kinds.judge_symbols.Given as goal

abbrev pub invariant-loop-row : goal.invariant-loop-row
invariant-loop-row l = first_from l.first (symbols_unknown l.types (map signature_of (drop l.row-index l.rows))) ≡ first_from l.fn.first (symbols_unknown l.types (map signature_of l.rows))
