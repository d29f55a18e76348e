use Rattle.std.proofs.Common.{◌++◌, false, map, filter, length, ap, ap₂, ◌∙◌}
use Rattle.std.proofs.Math.Path.{fun_ext}
use Rattle.std.specs.List.{range_with_len}
use Rattle.stp_cond.specs.Truth.{state_of_row}
use Rattle.stp_task.specs.Tasks.{plain_task}
use Rattle.stp_rewriting.specs.Rewritten.{is_shadowed}
use Rattle.stp_rewrite.specs.RewrittenTasks.{rewriting_in}
use Rattle.stp_rewrite.proofs.Ends.{closed_ends}
use Rattle.stp_rewrite.proofs.Tasks.{each}
use Rattle.stp_rewrite.proofs.first.first_state.Goals as goal

pub returns : goal.returns
returns c =
    let t = plain_task c.args.task.now in
    let r = rewriting_in t in
    let initial = c.args.task.now.initial in
    let marked = c.in_ok-add_marked.ensures ∙ ap₂ (λ l test. l ++ map (state_of_row initial) (filter test (range_with_len 0 (length initial)))) (c.in_ok-add_values.ensures ∙ ap (λ l. l ++ initial) c.new-values.ensures.items) (fun_ext c.in_ok-marked.ensures.state) in
    c.in_ok-row.ensures
    ∙ (c.as_slice.ensures.value
    ∙ (c.in_ok-add_closed.ensures
    ∙ ap₂ (λ l m. l ++ m)
    (marked ∙ ap (λ n. initial ++ map (state_of_row initial) (filter (is_shadowed r) (range_with_len 0 n))) (each c.args.task.now))
    (ap (map (λ e. false)) c.requires ∙ closed_ends r)))
