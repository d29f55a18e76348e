use Rattle.std.proofs.Common.{inl, refl}
use Rattle.std.proofs.lemmas.Result.{IfOk-weaker}
use Rattle.stp_schema.specs.Views.{problem_of}
use Rattle.stp_task.specs.Tasks.{plain_task}
use Rattle.stp_cli.specs.Planned.{IsPlannedTask}
use Rattle.stp_cli.proofs.EmptyPlans.{empty_plan_fits, strong_may_hold, task_read}
use Rattle.stp_cli.proofs.plan.plan.Goals as goal

pub is_empty_plan_strong-requires : goal.is_empty_plan_strong-requires
is_empty_plan_strong-requires c =
    let problem = c.args.problem.now in
    empty_plan_fits (problem_of problem) problem.timed.now (plain_task c.in-Ok.task) refl problem.few_timed.each c.in-Ok.ensures.answer c.in-Ok.ensures.lie

pub returns-then-branch : goal.returns-then-branch
returns-then-branch c =
    let problem = problem_of c.args.problem.now in
    let strong = c.in_ok-is_empty_plan_strong.ensures.strong c.if-branch.true in
    IfOk-weaker c.reply_with.result _ _
    (λ r (answer, is, status, text). (
      answer,
      task_read (IsPlannedTask problem) problem (plain_task c.in-Ok.task) answer c.in-Ok.ensures.answer (inl (record { strong = strong; may_hold = strong_may_hold c.args.problem.now (plain_task c.in-Ok.task) c.requires c.in-Ok.ensures.answer strong; answered = is })),
      status,
      text,
    ))
    c.reply_with.ensures.reply

pub returns : goal.returns
returns c =
    let problem = problem_of c.args.problem.now in
    IfOk-weaker c.plan_further.result _ _
    (λ r (answer, right, status, text). (answer, task_read (IsPlannedTask problem) problem (plain_task c.in-Ok.task) answer c.in-Ok.ensures.answer right, status, text))
    c.plan_further.ensures
