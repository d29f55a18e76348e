-- What the box and the times of a case in an arena stand for.
use Rattle.std.specs.Prelude.{◌≡◌, List, Result, Ok}
use Rattle.stp_schema.specs.Views.{PlainProblem}
use Rattle.stp_happen.specs.BoxViews.{plain_box}
use Rattle.stp_exec.specs.declared.boxed_plan.BoxedPlan.{BoxedPlan}
use Rattle.stp_exec.specs.Placed.{PlainPlaced}
use Rattle.stp_exec.specs.Plans.{IsPlan}
use Rattle.stp_exec.specs.TimeViews.{plain_times}
use Rattle.stp_cli.specs.declared.refusal.CaseFault.{CaseFault}
use Rattle.stp_cli.specs.Case.{PlainCase, case_with, times_of, grid_of, box_of}

-- a box with its times stands for a case
pub record StandsFor (made : BoxedPlan) (c : PlainCase) : Type 0 where
  pub box : plain_box made.boxed ≡ box_of c
  pub grid : made.boxed.grid ≡ grid_of c
  pub times : plain_times made.times ≡ times_of c
  pub plan : IsPlan c.problem c.steps

-- the steps that were read in a problem are those of a case
abbrev pub IsReadAs : BoxedPlan → PlainProblem → Result (List PlainPlaced) CaseFault → Type 0
IsReadAs made problem read = (steps : List PlainPlaced) × (read ≡ Ok steps) × StandsFor made (case_with problem steps)
