-- What is right to answer where a plan is wanted and nothing may be searched.
use Rattle.std.specs.Prelude.{◌≡◌, true, false, ◌⊎◌, []}
use Rattle.std.specs.Borrow.{Bor}
use Rattle.stp_schema.specs.Views.{PlainProblem, problem_of}
use Rattle.stp_schema.specs.declared.problem.Problem.{Problem}
use Rattle.stp_task.specs.Certificates.{IsClosed, IsLeastClosed, Pair, possible}
use Rattle.stp_task.specs.CertificateViews.{pair_of}
use Rattle.stp_task.specs.Tasks.{PlainTask, plain_task}
use Rattle.stp_task.specs.declared.certificate.Certificate.{Certificate}
use Rattle.stp_task.specs.declared.task.Task.{Task}
use Rattle.stp_exec.specs.Plans.{IsStrongPlan}
use Rattle.stp_report.specs.declared.answer.Answer.{Answer}
use Rattle.stp_report.specs.declared.answer.Answer.TheVariants as answers

-- the plan without steps is strong, so no closed pair makes the goal impossible, and that is the answer
pub record IsEmptyPlan (problem : PlainProblem) (made : PlainTask) (answer : Answer) : Type 0 where
  pub strong : IsStrongPlan problem []
  pub may_hold : (pair : Pair) → IsClosed made pair → possible pair made.goal ≡ true
  pub answered : answer ≡ answers.EmptyPlan

-- the goal is not possible in the least closed pair, and the answer is that pair
pub record IsUnreachable (read : PlainProblem) (made : PlainTask) (answer : Answer) : Type 0 where
  pub problem : Bor Problem
  pub task : Bor Task
  pub certificate : Bor Certificate
  pub weak : IsStrongPlan read [] → ⊥
  pub of_problem : problem_of problem.now ≡ read
  pub of_task : plain_task task.now ≡ made
  pub least : IsLeastClosed made (pair_of certificate.now)
  pub impossible : possible (pair_of certificate.now) made.goal ≡ false
  pub answered : answer ≡ answers.Unreachable problem task certificate

-- neither, and the answer is that nothing was left to search with
pub record IsSpent (problem : PlainProblem) (made : PlainTask) (answer : Answer) : Type 0 where
  pub certificate : Certificate
  pub weak : IsStrongPlan problem [] → ⊥
  pub least : IsLeastClosed made (pair_of certificate)
  pub may_hold : possible (pair_of certificate) made.goal ≡ true
  pub answered : answer ≡ answers.BudgetSpent

abbrev pub IsPlannedTask : PlainProblem → PlainTask → Answer → Type 0
IsPlannedTask problem made answer = IsEmptyPlan problem made answer ⊎ (IsUnreachable problem made answer ⊎ IsSpent problem made answer)
