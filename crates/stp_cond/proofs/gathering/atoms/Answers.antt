use Rattle.std.proofs.Common.{◌++◌, ap, ◌∙◌, arith}
use Rattle.std.proofs.lemmas.List.{take_all}
use Rattle.std.proofs.lemmas.List.Filters.{dedup_is}
use Rattle.stp_cond.specs.Atoms.{set_of}
use Rattle.stp_cond.specs.Views.{atoms_of}
use Rattle.stp_cond.specs.Formulas.{view, atoms_in}
use Rattle.stp_cond.proofs.Rising.{set_from_sort}
use Rattle.stp_cond.proofs.Shapes.{reads_all_of_them}
use Rattle.stp_cond.proofs.gathering.atoms.Goals as goal

pub returns-clause-atoms : goal.returns-clause-atoms
returns-clause-atoms c =
    c.loop-number.invariant ∙ (take_all c.loop-number.number-index c.deref-number-items.result.now (omega arith)
    ∙ (c.deref-number-items.ensures.value
    ∙ (dedup_is _ _ _ c.dedup.ensures.filtered
    ∙ (set_from_sort c.gather.new.numbers.items c.sort.new.self.items c.in_ok-sort.ensures.permutation c.in_ok-sort.ensures.sorted
    ∙ ap set_of (c.in_ok-gather.ensures ∙ ap (λ l. l ++ atoms_in (view c.args.cond.now)) c.new-numbers.ensures.items)))))

pub returns-clause-reads : goal.returns-clause-reads
returns-clause-reads c = reads_all_of_them c.args.cond.now (atoms_of c.loop-number.found) (returns-clause-atoms c)
