use Rattle.std.proofs.Common.{◌≡◌, ◌<◌, ◌-◌, true, rules, ◌++◌, List, ℕ, Bool, IfOk, [], ap, sym, ◌∙◌, subst, take, drop, length}
use Rattle.std.specs.List.{list_all}
use Rattle.stp_cond.specs.declared.cond.Cond.TheVariants.{True}
use Rattle.stp_cond.specs.Truth.{meaning_of, state_of_row}
use Rattle.stp_happen.specs.Plain.{state_after}
use Rattle.stp_window.specs.States.{came_by, state_at}
use Rattle.stp_strength.specs.Failures.{of_steps, sublists}
use Rattle.stp_window.specs.Views.{box_of}
use Rattle.stp_strength.specs.Views.{late_entries}
use Rattle.stp_strength.proofs.Checked.{left_of, no_other, last_other}
use Rattle.stp_strength.proofs.check.+passes_all.Goals as goal

pub returns-then-is_empty : goal.returns-then-is_empty
returns-then-is_empty t c =
    let over = c.args.over.now in
    let initial = c.args.initial.now in
    let windows = c.args.windows.now in
    let chosen = c.args.chosen.now in
    let test : List ℕ → Bool = λ steps. meaning_of over (state_at (box_of windows [] initial True) c.args.time (of_steps steps)) in
    let none : length c.args.others.now ≡ 0 = search rules in
    subst (λ v. IfOk c.holds_after.result (λ r. r ≡ v))
    (ap (λ ws. meaning_of over (state_after (state_of_row initial) (late_entries ws))) (c.deref.ensures.value ∙ c.in_ok-came.ensures)
    ∙ (ap (meaning_of over) (left_of (state_of_row initial) windows (came_by c.args.time (of_steps chosen))) ∙ no_other test chosen c.args.others.now none))
    c.holds_after.ensures

pub returns : goal.returns
returns t c =
    let over = c.args.over.now in
    let initial = c.args.initial.now in
    let windows = c.args.windows.now in
    let chosen = c.args.chosen.now in
    let others = c.args.others.now in
    let test : List ℕ → Bool = λ steps. meaning_of over (state_at (box_of windows [] initial True) c.args.time (of_steps steps)) in
    let some : 0 < length others = search rules in
    let rest = take (length others - 1) (drop 1 others) in
    let told : c.in_ok-passes_all.field-0 ≡ list_all (λ l. test (chosen ++ l)) (sublists rest) = c.in_ok-passes_all.ensures in
    let first : list_all (λ l. test (chosen ++ l)) (sublists rest) ≡ true = sym told ∙ c.if-not-branch.false in
    subst (λ v. IfOk c.passes_all-2.result (λ r. r ≡ v))
    (ap (λ more. list_all (λ l. test (more ++ l)) (sublists rest)) (c.deref-2.ensures.value ∙ c.in_ok-more.ensures) ∙ last_other test chosen others some first)
    c.passes_all-2.ensures
