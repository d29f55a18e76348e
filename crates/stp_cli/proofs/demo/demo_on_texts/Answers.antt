use Rattle.std.proofs.Common.{Err, ap, ◌∙◌}
use Rattle.std.proofs.lemmas.Result.{IfOk-weaker}
use Rattle.stp_schema.specs.Views.{problem_of}
use Rattle.stp_cli.specs.Case.{case_with}
use Rattle.stp_cli.specs.Demo.{cases_of, IsShown}
use Rattle.stp_cli.specs.declared.refusal.CaseFault.TheVariants.{Refused}
use Rattle.stp_cli.proofs.Casing.{is_refusal, case_refused, steps_refused, a_case, refused_or, or_right}
use Rattle.stp_cli.proofs.ShownDemos.{plan_refused, spoiled_refused, two_cases}
use Rattle.stp_cli.proofs.demo.demo_on_texts.Goals as goal

-- the problem is refused, and so both cases are
pub returns-in-Err : goal.returns-in-Err
returns-in-Err c =
    let domain = c.args.domain.now in
    let problem = c.args.problem.now in
    let plan = c.args.plan.now in
    let spoiled = c.args.spoiled.now in
    IfOk-weaker c.refuse.result _ _
    (λ r (refusal, of, (answer, is, status, text)). (
      answer,
      refused_or (IsShown c.args.number) (cases_of domain problem plan spoiled) refusal answer
          (plan_refused domain problem plan spoiled (Refused refusal) (case_refused domain problem plan (Refused refusal) (c.in-Err.ensures.refused (is_refusal c.in-Err.fault refusal of) ∙ ap Err of))) is,
      status,
      text,
    ))
    c.refuse.ensures

-- the plan is refused
pub returns-in-Err-summary_of_text : goal.returns-in-Err-summary_of_text
returns-in-Err-summary_of_text c =
    let domain = c.args.domain.now in
    let problem = c.args.problem.now in
    let plan = c.args.plan.now in
    let spoiled = c.args.spoiled.now in
    let read = problem_of c.in-Ok.problem in
    IfOk-weaker c.refuse-in-Err-summary_of_text.result _ _
    (λ r (refusal, of, (answer, is, status, text)). (
      answer,
      refused_or (IsShown c.args.number) (cases_of domain problem plan spoiled) refusal answer
          (plan_refused domain problem plan spoiled (Refused refusal)
          (steps_refused domain problem plan read c.in-Ok.ensures.ok (Refused refusal) (c.in-Err-summary_of_text.ensures.refused (is_refusal c.in-Err-summary_of_text.fault refusal of) ∙ ap Err of))) is,
      status,
      text,
    ))
    c.refuse-in-Err-summary_of_text.ensures

-- the spoiled plan is refused
pub returns-in-Err-summary_of_text-2 : goal.returns-in-Err-summary_of_text-2
returns-in-Err-summary_of_text-2 c =
    let domain = c.args.domain.now in
    let problem = c.args.problem.now in
    let plan = c.args.plan.now in
    let spoiled = c.args.spoiled.now in
    let read = problem_of c.in-Ok.problem in
    let told = c.in-Ok-summary_of_text.ensures.ok in
    IfOk-weaker c.refuse-in-Err-summary_of_text-2.result _ _
    (λ r (refusal, of, (answer, is, status, text)). (
      answer,
      refused_or (IsShown c.args.number) (cases_of domain problem plan spoiled) refusal answer
          (spoiled_refused domain problem plan spoiled (case_with read told.steps) (a_case domain problem plan read c.in-Ok.ensures.ok told.steps told.are_read) (Refused refusal)
          (steps_refused domain problem spoiled read c.in-Ok.ensures.ok (Refused refusal) (c.in-Err-summary_of_text-2.ensures.refused (is_refusal c.in-Err-summary_of_text-2.fault refusal of) ∙ ap Err of))) is,
      status,
      text,
    ))
    c.refuse-in-Err-summary_of_text-2.ensures

-- what is told is told of the two cases
pub returns : goal.returns
returns c =
    let domain = c.args.domain.now in
    let problem = c.args.problem.now in
    let plan = c.args.plan.now in
    let spoiled = c.args.spoiled.now in
    let read = problem_of c.in-Ok.problem in
    let ok = c.in-Ok.ensures.ok in
    let one = c.in-Ok-summary_of_text.ensures.ok in
    let other = c.in-Ok-summary_of_text-2.ensures.ok in
    let first = case_with read one.steps in
    let second = case_with read other.steps in
    IfOk-weaker c.reply_with.result _ _
    (λ r (answer, is, status, text). (
      answer,
      or_right (IsShown c.args.number) (cases_of domain problem plan spoiled) (record { plan = first; spoiled = second }) answer
          (two_cases domain problem plan spoiled first (a_case domain problem plan read ok one.steps one.are_read) second (a_case domain problem spoiled read ok other.steps other.are_read))
          (record {
            plan = c.in-Ok-summary_of_text.plan;
            spoiled = c.in-Ok-summary_of_text-2.spoiled;
            of_plan = one.told;
            of_spoiled = other.told;
            answered = is;
          }),
      status,
      text,
    ))
    c.reply_with.ensures.reply
