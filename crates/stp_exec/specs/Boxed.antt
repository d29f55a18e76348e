-- The box of a plan, or its first refusal.
use Rattle.std.specs.Prelude.{ℕ, nat_le, if◌then◌else◌, List, Option, Some, option_map, Result, Ok}
use Rattle.stp_base.specs.declared.limits.TheConstants.{MAX_GRID}
use Rattle.stp_schema.specs.Views.{PlainProblem}
use Rattle.stp_plan.specs.Steps.{PlainStep}
use Rattle.stp_exec.specs.Timed.{PlainTimes, base_grid, first_too_late}
use Rattle.stp_happen.specs.Boxes.{PlainBox}
use Rattle.stp_exec.specs.declared.fault.ExecFault.{ExecFault}
use Rattle.stp_exec.specs.declared.fault.ExecFault.TheVariants.{GridTooFine, TimeTooLarge}
use Rattle.stp_base.specs.Results.{◌>>=◌}
use Rattle.stp_exec.specs.Faults.{step_number, unless}
use Rattle.stp_exec.specs.Placed.{PlainPlaced, placed_from, times_of}
use Rattle.stp_exec.specs.Plans.{grid_of_plan, box_of_plan}

abbrev pub too_large : ℕ → ExecFault
too_large n = TimeTooLarge (step_number n)

-- the first limit that times go beyond: that of grids, and then that of times at the first step that starts, or may end,
-- after it
abbrev pub beyond : PlainTimes → Option ExecFault
beyond times = if nat_le (base_grid times) MAX_GRID then option_map too_large (first_too_late times.steps) else Some GridTooFine

abbrev pub beyond_limits : PlainProblem → List PlainPlaced → Option ExecFault
beyond_limits p steps = beyond (times_of p steps)

-- The steps of a plan in their places, or the first refusal: a step's, a limit's.
abbrev pub placed_or_fault : PlainProblem → List PlainStep → Result (List PlainPlaced) ExecFault
placed_or_fault p plan = do
  steps ← placed_from 1 p plan
  unless (beyond_limits p steps) steps

-- the base grid and the box of a plan, or the first refusal
abbrev pub box_or_fault : PlainProblem → List PlainStep → Result (ℕ × PlainBox) ExecFault
box_or_fault p plan = do
  steps ← placed_or_fault p plan
  Ok (grid_of_plan p steps, box_of_plan p steps)
