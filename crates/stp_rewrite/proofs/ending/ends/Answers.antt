use Rattle.std.proofs.Common.{◌≡◌, ◌+◌, ◌++◌, ◌<◌, length, None, get_or, option_map, sym, ap, ◌∙◌, subst}
use Rattle.std.proofs.lemmas.List.{length-map}
use Rattle.stp_base.specs.declared.ids.AtomId.{AtomId}
use Rattle.stp_task.specs.Actions.{action_of}
use Rattle.stp_task.specs.Tasks.{plain_task}
use Rattle.stp_rewrite.specs.Ends.{end_views, ends_by, ends_with}
use Rattle.stp_rewrite.specs.RewrittenTasks.{end_of, rewriting_in}
use Rattle.stp_rewrite.proofs.Ends.{as_many, end_step, opened_there}
use Rattle.stp_rewrite.proofs.Numbers.{action_at}
use Rattle.stp_rewrite.proofs.ending.ends.Goals as goal

pub bounds-opened-place : goal.bounds-opened-place
bounds-opened-place c =
    let t = plain_task c.args.task.now in
    subst (λ n. c.loop-place.place < n) (sym (as_many t c.args.opened.now c.requires.row ∙ length-map c.args.task.now.actions action_of))
    (subst (λ l. c.loop-place.place < length l) c.as_slice-action-items.ensures c.loop-place-test.true)

pub loop-place-preserved : goal.loop-place-preserved
loop-place-preserved c =
    let t = plain_task c.args.task.now in
    let i = c.loop-place.place in
    let x = c.action-item.result in
    let below : i < length c.args.task.now.actions = subst (λ l. i < length l) c.as_slice-action-items.ensures c.loop-place-test.true in
    let l : i < length t.actions = subst (λ n. i < n) (sym (length-map c.args.task.now.actions action_of)) below in
    let at = action_at c.args.task.now.actions i x below (subst (λ l. x ≡ get_or l i x) c.as_slice-action-items.ensures c.action-item.is) in
    let opened = option_map (λ (o : AtomId). o.0) (get_or c.args.opened.now i None) in
    end_step (rewriting_in t) t.actions i (action_of x) (end_views c.loop-place.ends) (end_views c.add_uncertain.new.ends) (ends_by (rewriting_in t)) opened l
    (opened_there t c.args.opened.now i None (action_of x) l c.requires.row)
    (c.in_ok-add_uncertain.ensures ∙ ap (λ a. end_views c.loop-place.ends ++ ends_with (i + 1) (end_of a) opened) (sym at))
    c.loop-place.invariant
