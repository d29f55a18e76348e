use Rattle.std.proofs.Common.{map, ap, ◌∙◌}
use Rattle.std.specs.List.{range_with_len}
use Rattle.stp_rewrite.specs.RewrittenTasks.{shadow_at}
use Rattle.stp_rewrite.specs.Rewriters.{rewriting_by}
use Rattle.stp_rewrite.proofs.Made.{same_parts}
use Rattle.stp_rewrite.proofs.Tasks.{each}
use Rattle.stp_rewrite.proofs.rewriter.Rewriter.rewritten.Goals as goal

pub returns : goal.returns
returns c =
    let w = c.args.self in
    let e = each w.task.now in
    same_parts _ _ _ _ _ _ _ _ _ _ _ _ _ _ (c.len.ensures ∙ e) (w.shadowed ∙ ap (λ n. map (shadow_at (rewriting_by w)) (range_with_len 0 n)) e) w.numbered c.in_ok-initial.ensures c.in_ok-actions.ensures c.in_ok-timed.ensures
