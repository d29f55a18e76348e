use Rattle.std.proofs.Common.{◌+◌, length, map, sym, ap, ap₂, ◌∙◌}
use Rattle.std.proofs.Math.Path.{fun_ext}
use Rattle.std.specs.List.{range_with_len}
use Rattle.stp_task.specs.Tasks.{plain_task}
use Rattle.stp_rewriting.specs.Rewritten.{is_shadowed}
use Rattle.stp_rewrite.specs.RewrittenTasks.{rewriting_in, shadow_at}
use Rattle.stp_rewrite.specs.Rows.{numbers_if, passing_below}
use Rattle.stp_rewrite.proofs.Numbers.{shadow_row_is}
use Rattle.stp_rewrite.proofs.Tasks.{each}
use Rattle.stp_rewrite.proofs.numbering.shadow_numbers.Goals as goal

pub returns-clause-row : goal.returns-clause-row
returns-clause-row c =
    let t = plain_task c.args.task.now in
    let e = each c.args.task.now in
    c.in_ok-row.ensures.row
    ∙ (ap₂ (λ test m. numbers_if test c.args.next.now m) (fun_ext c.in_ok-marked.ensures.state) (c.in_ok-marked.ensures.len ∙ e)
    ∙ (ap (λ k. numbers_if (is_shadowed (rewriting_in t)) k (length t.atoms)) (c.requires ∙ e)
    ∙ (shadow_row_is t ∙ ap (λ n. map (shadow_at (rewriting_in t)) (range_with_len 0 n)) (sym e))))

pub returns-clause-next : goal.returns-clause-next
returns-clause-next c =
    let t = plain_task c.args.task.now in
    let e = each c.args.task.now in
    c.in_ok-row.ensures.next
    ∙ (ap₂ (λ k test. k + passing_below test (length c.in_ok-marked.marked)) (c.requires ∙ e) (fun_ext c.in_ok-marked.ensures.state)
    ∙ ap (λ m. length t.atoms + passing_below (is_shadowed (rewriting_in t)) m) (c.in_ok-marked.ensures.len ∙ e))
