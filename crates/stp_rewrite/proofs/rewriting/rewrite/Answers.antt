use Rattle.std.proofs.Common.{Ok, option_map, sym, ap, ◌∙◌}
use Rattle.stp_base.specs.declared.ids.ActionId.{ActionId}
use Rattle.stp_task.specs.Tasks.{plain_task}
use Rattle.stp_rewrite.specs.Counts.{lock_count, node_count}
use Rattle.stp_rewrite.specs.Refusals.{rewritten_or_fault}
use Rattle.stp_rewrite.specs.Rewriters.{task_in}
use Rattle.stp_rewrite.proofs.Made.{accepted, is_past, is_within, refused_footprints, refused_locks, refused_nodes}
use Rattle.stp_rewrite.proofs.rewriting.rewrite.Goals as goal

pub returns-in-Some : goal.returns-in-Some
returns-in-Some c = λ _.
    let t = task_in c.in_ok-rewriter.rewriter in
    ap (λ k. rewritten_or_fault (plain_task k)) (sym c.in_ok-rewriter.ensures)
    ∙ refused_footprints t c.in-Some.action.0 (sym c.in_ok-action.ensures ∙ ap (option_map (λ (n : ActionId). n.0)) c.in-Some.is)

pub returns-then-branch-gt-MAX_OVER_ALL_NODES : goal.returns-then-branch-gt-MAX_OVER_ALL_NODES
returns-then-branch-gt-MAX_OVER_ALL_NODES c = λ _.
    let t = task_in c.in_ok-rewriter.rewriter in
    ap (λ k. rewritten_or_fault (plain_task k)) (sym c.in_ok-rewriter.ensures)
    ∙ refused_nodes t (sym c.in_ok-action.ensures ∙ ap (option_map (λ (n : ActionId). n.0)) c.in_default.is) (is_past c.in_ok-node_count.field-0 (node_count t) c.in_ok-node_count.ensures c.if-branch-gt-MAX_OVER_ALL_NODES.true)

pub returns-then-lock_count-gt-MAX_BLOCKS : goal.returns-then-lock_count-gt-MAX_BLOCKS
returns-then-lock_count-gt-MAX_BLOCKS c = λ _.
    let t = task_in c.in_ok-rewriter.rewriter in
    ap (λ k. rewritten_or_fault (plain_task k)) (sym c.in_ok-rewriter.ensures)
    ∙ refused_locks t (sym c.in_ok-action.ensures ∙ ap (option_map (λ (n : ActionId). n.0)) c.in_default.is) (is_within c.in_ok-node_count.field-0 (node_count t) c.in_ok-node_count.ensures c.if-branch-gt-MAX_OVER_ALL_NODES.false) (is_past c.lock_count.result (lock_count t) c.lock_count.ensures c.if-lock_count-gt-MAX_BLOCKS.true)

pub returns : goal.returns
returns c =
    let t = task_in c.in_ok-rewriter.rewriter in
    ap (λ k. rewritten_or_fault (plain_task k)) (sym c.in_ok-rewriter.ensures)
    ∙ (accepted t (sym c.in_ok-action.ensures ∙ ap (option_map (λ (n : ActionId). n.0)) c.in_default.is) (is_within c.in_ok-node_count.field-0 (node_count t) c.in_ok-node_count.ensures c.if-branch-gt-MAX_OVER_ALL_NODES.false) (is_within c.lock_count.result (lock_count t) c.lock_count.ensures c.if-lock_count-gt-MAX_BLOCKS.false)
    ∙ ap Ok (sym c.in_ok-made.ensures))
