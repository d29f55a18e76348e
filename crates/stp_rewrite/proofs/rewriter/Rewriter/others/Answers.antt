use Rattle.std.proofs.Common.{◌≡◌, map, filter, IfOk, ap, ◌∙◌, subst}
use Rattle.stp_expand.specs.Views.{footprints_of}
use Rattle.stp_rewrite.specs.Ends.{end_views, is_other}
use Rattle.stp_rewrite.specs.Rewriters.{rewriting_by}
use Rattle.stp_rewrite.proofs.Settling.{others_are}
use Rattle.stp_rewrite.proofs.rewriter.Rewriter.others.Goals as goal

pub returns : goal.returns
returns c =
    subst (λ l. IfOk c.others_among.result (λ r. footprints_of r.items ≡ l))
    (ap (λ l. map (λ o. o.footprint) (filter (is_other c.args.action.0) l)) (ap end_views c.as_slice.ensures ∙ c.args.self.now.ended) ∙ others_are (rewriting_by c.args.self.now) c.args.action.0)
    c.others_among.ensures
