-- The steps of a plan in their places.
use Rattle.std.specs.Prelude.{ℕ, ◌+◌, List, [], ◌∷◌, map, Result, Ok}
use Rattle.stp_frac.specs.Fractions.{Fraction}
use Rattle.stp_schema.specs.Views.{PlainProblem}
use Rattle.stp_ground.specs.Chosen.{PlainChosen, chosen_by}
use Rattle.stp_plan.specs.Steps.{PlainStep}
use Rattle.stp_exec.specs.Held.{PlainHeld, held_of}
use Rattle.stp_exec.specs.Timed.{PlainTimedStep, PlainTimes}
use Rattle.stp_exec.specs.declared.fault.ExecFault.{ExecFault}
use Rattle.stp_exec.specs.declared.fault.ExecFault.TheVariants.{Step}
use Rattle.stp_base.specs.Results.{◌>>=◌}
use Rattle.stp_exec.specs.Faults.{choice_fault, or_fault, step_number}

-- a step of a plan in a problem: what it chooses, when it starts and how long it lasts
pub record PlainPlaced : Type 0 where
  pub chosen : PlainChosen
  pub timed : PlainTimedStep

abbrev pub placed_at : PlainChosen → Fraction → PlainHeld → PlainPlaced
placed_at chosen start held = record { chosen = chosen; timed = record { start = start; held = held } }

-- the place of a step with a number: what its name and arguments choose, and then what its bracket says of its duration;
-- or its number and the code of the first of the two that is refused
abbrev pub placed_step : ℕ → PlainProblem → PlainStep → Result PlainPlaced ExecFault
placed_step n p s = do
  chosen ← or_fault (choice_fault (step_number n)) (chosen_by p s.name s.args)
  held ← or_fault (Step (step_number n)) (held_of chosen.duration s.bracket)
  Ok (placed_at chosen s.at held)

-- all steps in order; or the number and the code of the first that is refused, where n is the number of the first one
abbrev pub placed_from : ℕ → PlainProblem → List PlainStep → Result (List PlainPlaced) ExecFault
placed_from n p [] = Ok []
placed_from n p (s ∷ steps) = do
  one ← placed_step n p s
  others ← placed_from (n + 1) p steps
  Ok (one ∷ others)

-- when steps start, and how long they last
abbrev pub step_times : List PlainPlaced → List PlainTimedStep
step_times steps = map (λ (s : PlainPlaced). s.timed) steps

-- the same of a plan, and when the events of its problem come
abbrev pub times_of : PlainProblem → List PlainPlaced → PlainTimes
times_of p steps = record { steps = step_times steps; events = p.timed }
