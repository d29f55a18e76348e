use Rattle.std.proofs.Common.{◌≡◌, ◌++◌, ℕ, List, map, ap, sym, ◌∙◌, arith}
use Rattle.std.proofs.lemmas.List.{append-nil, drop_all}
use Rattle.stp_plan.specs.declared.steps.Step.{Step}
use Rattle.stp_plan.specs.Plans.{plan_of}
use Rattle.stp_plan.specs.Printing.{plan_text}
use Rattle.stp_plan.specs.Views.{plain_step, plain_plan}
use Rattle.stp_plan.proofs.Printed.{printed_plans_are_read_again}
use Rattle.stp_plan.proofs.Lawful.{short_plan}
use Rattle.stp_plan.proofs.print.print_plan.Goals as goal

pub returns-clause-again : goal.returns-clause-again
returns-clause-again c h =
    let text : List ℕ = c.loop-step.text in
    let done : text ≡ plan_text (plain_plan c.args.plan.now) =
    sym (append-nil text)
    ∙ ap (λ (steps : List Step). text ++ plan_text (map plain_step steps)) (sym (drop_all c.loop-step.step-index c.as_slice-step-items.result.now (omega arith)))
    ∙ c.loop-step.invariant in
    ap plan_of done ∙ printed_plans_are_read_again (plain_plan c.args.plan.now) (short_plan c.args.plan.now.steps h)
