use Rattle.std.proofs.Common.{◌≡◌, IfOk, ap, sym, ◌∙◌, subst}
use Rattle.std.specs.List.{list_all}
use Rattle.stp_cond.specs.Truth.{meaning_of, state_of_row}
use Rattle.stp_window.specs.States.{at_last}
use Rattle.stp_strength.specs.Facts.{lows}
use Rattle.stp_strength.specs.Failures.{all_pairs_pass, stay_apart, all_calm, is_fed, is_kept}
use Rattle.stp_window.specs.Views.{box_of}
use Rattle.stp_strength.proofs.Checked.{lows_of, last_of, not_fed, not_kept, all_but_the_goal}
use Rattle.stp_strength.proofs.check.has_facts.Goals as goal

pub returns-then-not-branch : goal.returns-then-not-branch
returns-then-not-branch c =
    let b = box_of c.args.windows.now c.args.spans.now c.args.initial.now c.args.goal.now in
    not_fed (all_pairs_pass stay_apart b.spans) (all_calm b) (list_all (is_fed b) b.points) (list_all (λ s. list_all (is_kept b s) (lows b)) b.spans) (b.goal (at_last b)) (sym c.in_ok-all_fed.ensures ∙ c.if-not-branch.true)

pub returns-then-not-branch-2 : goal.returns-then-not-branch-2
returns-then-not-branch-2 c =
    let b = box_of c.args.windows.now c.args.spans.now c.args.initial.now c.args.goal.now in
    not_kept (all_pairs_pass stay_apart b.spans) (all_calm b) (list_all (is_fed b) b.points) (list_all (λ s. list_all (is_kept b s) (lows b)) b.spans) (b.goal (at_last b))
    (ap (λ ts. list_all (λ s. list_all (is_kept b s) ts) b.spans) (sym (lows_of c.args.windows.now)) ∙ (sym c.in_ok-all_kept.ensures ∙ c.if-not-branch-2.true))

pub returns : goal.returns
returns c =
    let b = box_of c.args.windows.now c.args.spans.now c.args.initial.now c.args.goal.now in
    subst (λ v. IfOk c.holds_after.result (λ r. r ≡ v))
    (ap (meaning_of c.args.goal.now) (last_of (state_of_row c.args.initial.now) c.args.windows.now)
    ∙ all_but_the_goal (all_pairs_pass stay_apart b.spans) (all_calm b) (list_all (is_fed b) b.points) (list_all (λ s. list_all (is_kept b s) (lows b)) b.spans) (b.goal (at_last b))
    (sym c.all_apart.ensures ∙ c.if-not-all_apart.false) (sym c.all_calm.ensures ∙ c.if-not-all_calm.false) (sym c.in_ok-all_fed.ensures ∙ c.if-not-branch.false)
    (ap (λ ts. list_all (λ s. list_all (is_kept b s) ts) b.spans) (sym (lows_of c.args.windows.now)) ∙ (sym c.in_ok-all_kept.ensures ∙ c.if-not-branch-2.false)))
    c.holds_after.ensures
