use Rattle.std.proofs.Common.{map, drop, ◌+◌, ap, sym, ◌∙◌, arith}
use Rattle.stp_refusal.specs.declared.code.Code.TheVariants.{D13}
use Rattle.stp_refusal.specs.First.{first_from}
use Rattle.stp_refusal.proofs.Reading.{first_from-append}
use Rattle.stp_domain_parts.specs.Entries.{plains}
use Rattle.stp_domain_parts.specs.Judged.{kinds_unknown}
use Rattle.stp_domain_tables.specs.Views.{signature_of}
use Rattle.stp_domain_tables.specs.Tables.{symbols_unknown}
use Rattle.stp_domain_tables.proofs.Slices.{map_drop_at}
use Rattle.stp_domain_tables.proofs.kinds.judge_symbols.Goals as goal

pub loop-row-preserved : goal.loop-row-preserved
loop-row-preserved c =
    let rest = symbols_unknown c.args.types.now (map signature_of (drop (c.loop-row.row-index + 1) c.args.rows.now)) in
    ap (λ found. first_from found rest) (rw c.as_slice.ensures at c.judge_kinds.ensures)
    ∙ sym (first_from-append c.loop-row.first (kinds_unknown D13 c.args.types.now (plains c.row-item.result.parameters)) rest)
    ∙ (rw (map_drop_at signature_of c.args.rows.now c.loop-row.row-index c.row-item.result (omega arith) (sym c.row-item.is)) at c.loop-row.invariant)
