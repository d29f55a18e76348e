use Rattle.std.proofs.Common.{◌≡◌, nat_lt, IfOk, ap, ◌∙◌, subst}
use Rattle.stp_cond.specs.Truth.{meaning_of, state_of_row}
use Rattle.stp_happen.specs.Plain.{state_after}
use Rattle.stp_strength.specs.Views.{late_entries}
use Rattle.stp_strength.proofs.Checked.{left_of}
use Rattle.stp_strength.proofs.check.is_fed.Goals as goal

pub returns : goal.returns
returns c =
    let cond = c.args.window.now.event.cond.now in
    let low = c.args.window.now.low in
    let initial = state_of_row c.args.initial.now in
    subst (λ v. IfOk c.holds_after.result (λ r. r ≡ v))
    (ap (λ ws. meaning_of cond (state_after initial (late_entries ws))) (c.deref.ensures.value ∙ c.in_ok-certain.ensures) ∙ ap (meaning_of cond) (left_of initial c.args.windows.now (λ p. nat_lt p.high low)))
    c.holds_after.ensures
