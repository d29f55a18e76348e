use Rattle.std.proofs.Common.{◌≡◌, ◌<◌, ◌≤◌, List, ℕ, Bool, IfOk, [], ap, ◌∙◌, subst, arith}
use Rattle.std.specs.List.{list_all}
use Rattle.stp_cond.specs.declared.cond.Cond.TheVariants.{True}
use Rattle.stp_cond.specs.Truth.{meaning_of}
use Rattle.stp_window.specs.States.{state_at}
use Rattle.stp_strength.specs.Failures.{of_steps, sublists, others}
use Rattle.stp_window.specs.Views.{span_of, box_of}
use Rattle.stp_strength.proofs.Checked.{others_of, inside}
use Rattle.stp_strength.proofs.check.is_kept.Goals as goal

pub returns : goal.returns
returns c =
    let span = c.args.span.now in
    let windows = c.args.windows.now in
    let b = box_of windows [] c.args.initial.now True in
    let test : List ℕ → Bool = λ steps. meaning_of span.inside.over.now (state_at b c.args.time (of_steps steps)) in
    let from : span.owner.start ≤ c.args.time = omega arith in
    let to : c.args.time < span.owner.high = omega arith in
    subst (λ v. IfOk c.passes_all.result (λ r. r ≡ v))
    (ap (λ os. list_all test (sublists os)) (c.deref.ensures.value ∙ (c.in_ok-others.ensures ∙ others_of windows span.owner.number c.args.time))
    ∙ inside span.owner.start c.args.time span.owner.high (list_all test (sublists (others b (span_of span) c.args.time))) from to)
    c.passes_all.ensures
