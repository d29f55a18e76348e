use Rattle.std.proofs.Common.{◌≡◌, sym, ap, ◌∙◌}
use Rattle.stp_expand.specs.Expanded.{is_consistent, picked}
use Rattle.stp_expand.specs.Views.{footprints_of}
use Rattle.stp_expand.proofs.Numbered.{picked_views}
use Rattle.stp_rewrite.specs.Counts.{cut, set_nodes}
use Rattle.stp_rewrite.proofs.Cut.{at_used, at_unused}
use Rattle.stp_rewrite.proofs.counting.nodes_at.Goals as goal

pub returns-then-is_consistent : goal.returns-then-is_consistent
returns-then-is_consistent c =
    let ps = footprints_of c.args.footprints.now in
    let set : footprints_of c.as_slice.result.now ≡ picked ps c.args.number = ap footprints_of (c.as_slice.ensures.value ∙ c.in_ok-set.ensures) ∙ picked_views c.args.footprints.now c.args.number in
    c.set_nodes.ensures
    ∙ (ap (λ l. cut (set_nodes c.args.each (footprints_of l))) (c.as_slice-then-is_consistent.ensures.value ∙ c.in_ok-set.ensures)
    ∙ (ap (λ l. cut (set_nodes c.args.each l)) (picked_views c.args.footprints.now c.args.number)
    ∙ ap cut (at_used c.args.each ps c.args.number (ap is_consistent (sym set) ∙ (sym c.is_consistent.ensures ∙ c.if-is_consistent.true)))))

pub returns : goal.returns
returns c =
    let ps = footprints_of c.args.footprints.now in
    let set : footprints_of c.as_slice.result.now ≡ picked ps c.args.number = ap footprints_of (c.as_slice.ensures.value ∙ c.in_ok-set.ensures) ∙ picked_views c.args.footprints.now c.args.number in
    ap cut (at_unused c.args.each ps c.args.number (ap is_consistent (sym set) ∙ (sym c.is_consistent.ensures ∙ c.if-is_consistent.false)))
