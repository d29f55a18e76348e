use Rattle.std.proofs.Common.{◌≡◌, map, filter, IfOk, ap, ◌∙◌, subst}
use Rattle.stp_cond.specs.Events.{event_of}
use Rattle.stp_cond.specs.Views.{atoms_of}
use Rattle.stp_rewrite.specs.Ends.{end_views, is_lock}
use Rattle.stp_rewrite.specs.Rewriters.{rewriting_by}
use Rattle.stp_rewrite.proofs.Settling.{locks_are}
use Rattle.stp_rewrite.proofs.rewriter.Rewriter.locks.Goals as goal

pub returns : goal.returns
returns c =
    let key = c.args.action.0 in
    let e = event_of c.args.event.now in
    subst (λ l. IfOk c.locks_among.result (λ r. atoms_of r.items ≡ l))
    (ap (λ l. map (λ o. o.opened) (filter (is_lock key e) l)) (ap end_views c.as_slice.ensures ∙ c.args.self.now.ended) ∙ locks_are (rewriting_by c.args.self.now) key e)
    c.locks_among.ensures
