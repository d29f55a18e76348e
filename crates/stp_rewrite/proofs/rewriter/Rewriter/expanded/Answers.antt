use Rattle.std.proofs.Common.{ap, ap₂, ◌∙◌}
use Rattle.stp_cond.specs.Formulas.{view}
use Rattle.stp_expand.specs.Expanded.{expanded}
use Rattle.stp_expand.specs.Views.{footprints_of, shadow_in}
use Rattle.stp_rewrite.proofs.ExpandedOvers.{expanded_by_row}
use Rattle.stp_rewrite.proofs.rewriter.Rewriter.expanded.Goals as goal

pub returns : goal.returns
returns c =
    let f = view c.args.action.now.over.now in
    ap view c.in_ok-made.ensures
    ∙ (c.in-Ok.ensures.ok
    ∙ (ap₂ (λ row ends. expanded (shadow_in row) ends f) c.as_slice.ensures (ap footprints_of c.deref.ensures.value ∙ c.in_ok-others.ensures)
    ∙ expanded_by_row c.args.self.now c.args.number.0 f))
