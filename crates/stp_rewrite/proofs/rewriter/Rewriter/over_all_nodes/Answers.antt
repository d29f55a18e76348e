use Rattle.std.proofs.Common.{sym, ap, ◌∙◌}
use Rattle.stp_expand.specs.Views.{footprints_of}
use Rattle.stp_task.specs.Actions.{action_of}
use Rattle.stp_rewriting.specs.Rewritten.{other_ends}
use Rattle.stp_rewrite.specs.Counts.{cut, expanded_nodes, nodes_in}
use Rattle.stp_rewrite.specs.RewrittenTasks.{over_of_action}
use Rattle.stp_rewrite.specs.Rewriters.{rewriting_by}
use Rattle.stp_rewrite.proofs.ExpandedOvers.{if_it_lasts}
use Rattle.stp_rewrite.proofs.Nodes.{nodes_of_expanded}
use Rattle.stp_rewrite.proofs.rewriter.Rewriter.over_all_nodes.Goals as goal

pub returns : goal.returns
returns c =
    let r = rewriting_by c.args.self.now in
    let a = action_of c.args.action.now in
    c.in_ok-count.ensures
    ∙ (ap (λ l. cut (expanded_nodes l a.over)) (ap footprints_of c.deref.ensures.value ∙ c.in_ok-others.ensures)
    ∙ (ap cut (sym (nodes_of_expanded r.shadow (other_ends r c.args.number.0) a.over))
    ∙ ap cut (sym (if_it_lasts a.duration (nodes_in (over_of_action r c.args.number.0 a)) (sym c.lasts.ensures ∙ c.if-not-lasts.false)))))
