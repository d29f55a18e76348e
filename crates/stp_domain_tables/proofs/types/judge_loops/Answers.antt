use Rattle.std.proofs.Common.{drop, get_or, ◌+◌, ap, sym, ◌∙◌, arith}
use Rattle.stp_refusal.specs.First.{first_from}
use Rattle.stp_refusal.proofs.Reading.{first_from-append}
use Rattle.stp_domain_parts.specs.Entries.{plain, plains}
use Rattle.stp_domain_tables.specs.Types.{loop_wrong, loops_wrong}
use Rattle.stp_domain_tables.proofs.Slices.{no_entry, map_drop}
use Rattle.stp_domain_tables.proofs.types.judge_loops.Goals as goal

pub loop-entry-preserved : goal.loop-entry-preserved
loop-entry-preserved c = λ parents m.
    let rest = loops_wrong c.args.types.now parents (plains (drop (c.loop-entry.entry-index + 1) c.args.entries.now)) in
    let entry = get_or c.args.entries.now c.loop-entry.entry-index no_entry in
    ap (λ found. first_from found rest) (c.judge_loop.ensures parents m)
    ∙ sym (first_from-append c.loop-entry.first (loop_wrong c.args.types.now parents (plain entry)) rest)
    ∙ (rw (map_drop plain c.args.entries.now c.loop-entry.entry-index no_entry (omega arith)) at (c.loop-entry.invariant parents m))
