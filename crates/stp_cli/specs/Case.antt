-- The case that three files make: a problem, and the steps of a plan in their places; or the first refusal.
use Rattle.std.specs.Prelude.{ℕ, List, Result, Ok}
use Rattle.stp_text.specs.Reading.{tree_of}
use Rattle.stp_schema.specs.Views.{PlainProblem}
use Rattle.stp_domain.specs.Reading.{domain_or_refusal}
use Rattle.stp_problem.specs.Reading.{problem_or_refusal}
use Rattle.stp_task.specs.Tasks.{PlainTask}
use Rattle.stp_kept.specs.KeptTasks.{task_or_fault}
use Rattle.stp_plan.specs.Plans.{plan_of}
use Rattle.stp_happen.specs.Boxes.{PlainBox}
use Rattle.stp_exec.specs.Timed.{PlainTimes}
use Rattle.stp_exec.specs.Placed as places
use Rattle.stp_exec.specs.Placed.{PlainPlaced}
use Rattle.stp_exec.specs.Plans.{grid_of_plan, box_of_plan}
use Rattle.stp_exec.specs.Boxed.{placed_or_fault}
use Rattle.stp_report.specs.declared.answer.FileName.TheVariants as files
use Rattle.stp_base.specs.Results.{◌>>=◌}
use Rattle.stp_cli.specs.Refusals.{or_fault, text_fault, read_fault, plan_fault, exec_fault, ground_fault}
use Rattle.stp_cli.specs.declared.refusal.CaseFault.{CaseFault}

pub record PlainCase : Type 0 where
  pub problem : PlainProblem
  pub steps : List PlainPlaced

abbrev pub case_with : PlainProblem → List PlainPlaced → PlainCase
case_with problem steps = record { problem = problem; steps = steps }

-- the problem of a domain's and a problem's bytes, or their first refusal: the domain is read whole before the problem is
unfoldable pub problem_of_texts : List ℕ → List ℕ → Result PlainProblem CaseFault
problem_of_texts domain problem = do
  domain_tree ← or_fault (text_fault files.Domain) (tree_of domain)
  world ← or_fault (read_fault files.Domain) (domain_or_refusal domain_tree)
  problem_tree ← or_fault (text_fault files.Problem) (tree_of problem)
  or_fault (read_fault files.Problem) (problem_or_refusal world problem_tree)

-- the steps of a plan's bytes in a problem, or their first refusal: all lines are read before a step is looked at
unfoldable pub steps_of : PlainProblem → List ℕ → Result (List PlainPlaced) CaseFault
steps_of problem plan = do
  lines ← or_fault plan_fault (plan_of plan)
  or_fault exec_fault (placed_or_fault problem lines)

-- the case of a domain's, a problem's and a plan's bytes, or their first refusal
unfoldable pub case_of : List ℕ → List ℕ → List ℕ → Result PlainCase CaseFault
case_of domain problem plan = do
  read ← problem_of_texts domain problem
  steps ← steps_of read plan
  Ok (case_with read steps)

-- the task of a problem, or its first refusal
abbrev pub task_in : PlainProblem → Result PlainTask CaseFault
task_in problem = or_fault ground_fault (task_or_fault problem)

-- when its steps are, and when the events of its problem come
abbrev pub times_of : PlainCase → PlainTimes
times_of c = places.times_of c.problem c.steps

-- the number of moments in a unit of time
abbrev pub grid_of : PlainCase → ℕ
grid_of c = grid_of_plan c.problem c.steps

-- its steps and events on this grid, from the first state to the goal
abbrev pub box_of : PlainCase → PlainBox
box_of c = box_of_plan c.problem c.steps
