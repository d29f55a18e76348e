use Rattle.std.proofs.Common.{[], None}
use Rattle.stp_text.specs.Tree.{views}
use Rattle.stp_refusal.specs.declared.code.Code.TheVariants.{D07, D08, D10}
use Rattle.stp_refusal.specs.Read.{also}
use Rattle.stp_refusal.proofs.Reading.{also_is}
use Rattle.stp_domain_parts.specs.declared.judged.WordKind.TheVariants.{Name}
use Rattle.stp_domain_parts.specs.Entries.{plains, entries_of}
use Rattle.stp_domain_parts.specs.Judged.{names_wrong, shapes_wrong}
use Rattle.stp_domain_tables.proofs.declarations.read_names.Goals as goal

pub returns : goal.returns
returns c =
    let entries = entries_of D10 [] None (views c.args.items.now) in
    also_is shapes_wrong _ _ _ (plains c.in_ok-entries.entries) (also (names_wrong Name D07 D08 c.args.seen) entries)
    (also_is (names_wrong Name D07 D08 c.args.seen) _ _ _ (plains c.in_ok-entries.entries) entries c.in_ok-entries.ensures (rw c.as_slice.ensures at c.in_ok-judge_names.ensures.found))
    (rw c.as_slice-2.ensures at c.judge_shapes.ensures)
