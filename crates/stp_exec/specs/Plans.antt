-- What a plan of a problem is, its box, and when it is strong.
use Rattle.std.specs.Prelude.{◌≡◌, ℕ, ◌+◌, ◌==◌, ◌<◌, unsigned_abs, Bool, true, false, ◌&&◌, List, [], ◌∷◌, map, flat_map, Ok, option_map, All, bytes_eq}
use Rattle.std.specs.List.{position_or_len}
use Rattle.stp_frac.specs.Divisors.{gcd}
use Rattle.stp_frac.specs.Fractions.{Fraction, is_below_zero}
use Rattle.stp_schema.specs.Timed.{PlainTimedFact, is_chosen}
use Rattle.stp_schema.specs.Views.{PlainProblem}
use Rattle.stp_tables.specs.Atoms.{Atom}
use Rattle.stp_cond.specs.Atoms.{PlainEvent}
use Rattle.stp_cond.specs.Truth.{state_of_row}
use Rattle.stp_cond.specs.Formulas.{Formula, holds_in}
use Rattle.stp_task.specs.Actions.{PlainAction, PlainHappening}
use Rattle.stp_instance.specs.Numbered.{with_atoms}
use Rattle.stp_ground.specs.Problems.{is_fact, goal_of, initial_atoms, event_atoms, goal_atoms}
use Rattle.stp_ground.specs.Chosen.{PlainChosen, chosen_by}
use Rattle.stp_ground.specs.Ground.{atoms_of_chosen, left_of, action_by, event_by}
use Rattle.stp_exec.specs.declared.moments.Moments.{Moments}
use Rattle.stp_exec.specs.Held.{PlainHeld, Instant, Fixed, Open}
use Rattle.stp_exec.specs.Timed.{PlainTimedStep, base_grid, count_of, moments_of}
use Rattle.stp_happen.specs.Owners.{PlainBoxStep, PlainBoxTimed, owners_of}
use Rattle.stp_happen.specs.Boxes.{PlainBox, IsStrong}
use Rattle.stp_exec.specs.Times.{is_open, fits}
use Rattle.stp_exec.specs.Placed.{PlainPlaced, times_of}

-- ---- plans

-- some name and arguments choose it
abbrev pub IsInstance : PlainProblem → PlainChosen → Type 0
IsInstance p c = (name : List ℕ) × ((names : List (List ℕ)) × (chosen_by p name names ≡ Ok c))

-- a number over one from 1 on, which have no common divisor but 1
pub record IsReduced (f : Fraction) : Type 0 where
  pub bottom : 0 < f.bottom
  pub coprime : gcd (unsigned_abs f.top) f.bottom ≡ 1

-- the numbers of a time
abbrev pub numbers_of : PlainHeld → List Fraction
numbers_of Instant = []
numbers_of (Fixed duration) = duration ∷ []
numbers_of (Open low high) = low ∷ high ∷ []

-- when a step starts, and how long it lasts, in lowest terms
abbrev pub HasLowestTerms : PlainTimedStep → Type 0
HasLowestTerms t = All IsReduced (t.start ∷ numbers_of t.held)

-- a step of a plan: an instance that starts from 0 on, and lasts as its action may
pub record IsStepOf (p : PlainProblem) (s : PlainPlaced) : Type 0 where
  pub instance : IsInstance p s.chosen
  pub start : is_below_zero s.timed.start.top ≡ false
  pub lasts : fits s.chosen.duration s.timed.held ≡ true
  pub lowest : HasLowestTerms s.timed

-- a plan of a problem
abbrev pub IsPlan : PlainProblem → List PlainPlaced → Type 0
IsPlan p steps = All (IsStepOf p) steps

-- ---- boxes

-- the atoms of the conditions and effects of each step
abbrev pub atoms_of_steps : PlainProblem → List PlainPlaced → List Atom
atoms_of_steps p steps = flat_map (λ (s : PlainPlaced). atoms_of_chosen p s.chosen) steps

-- the atoms of a plan in the order in which they are numbered: what is true at first, the events of the environment,
-- the goal, and then the steps
abbrev pub atoms_of_plan : PlainProblem → List PlainPlaced → List Atom
atoms_of_plan p steps = with_atoms (with_atoms (with_atoms (with_atoms [] (initial_atoms p)) (event_atoms p)) (goal_atoms p)) (atoms_of_steps p steps)

-- what a formula says of a state
abbrev pub meaning : Formula → (ℕ → Bool) → Bool
meaning f state = holds_in state f

abbrev pub event_in : PlainHappening → PlainEvent
event_in h = record { cond = meaning h.cond; reads = h.reads; adds = h.adds; dels = h.dels }

-- whether two steps are of one action: the same schema with the same objects
abbrev pub is_one_action : PlainPlaced → PlainPlaced → Bool
is_one_action s t = (s.chosen.schema == t.chosen.schema) && bytes_eq s.chosen.args t.chosen.args

-- the number of the first step that is of one action with a step, from 1
abbrev pub key_in : List PlainPlaced → PlainPlaced → ℕ
key_in steps s = position_or_len (is_one_action s) steps + 1

-- a step with these moments, this key and this action
abbrev pub step_with : Moments → Bool → ℕ → PlainAction → PlainBoxStep
step_with moments uncertain key action = record {
  start = moments.start;
  low = moments.low;
  high = moments.high;
  uncertain = uncertain;
  key = key;
  first = event_in action.start;
  last = option_map event_in action.finish;
  over = meaning action.over;
}

-- a step of a plan on a grid, over a table of atoms
abbrev pub step_in : PlainProblem → List Atom → ℕ → List PlainPlaced → PlainPlaced → PlainBoxStep
step_in p table grid steps s = step_with (moments_of grid s.timed) (is_open s.timed.held) (key_in steps s) (action_by p table s.chosen)

-- an event of the environment on a grid, over a table of atoms; its moment is uncertain where its bounds differ
abbrev pub timed_in : List Atom → ℕ → PlainTimedFact → PlainBoxTimed
timed_in table grid e = record {
  low = count_of grid e.low;
  high = count_of grid e.high;
  uncertain = is_chosen e;
  event = event_in (event_by table e);
}

-- the box of steps on a grid, over a table of atoms, with the events of the problem
abbrev pub box_over : PlainProblem → List Atom → ℕ → List PlainPlaced → PlainBox
box_over p table grid steps = record {
  owners = owners_of (map (step_in p table grid steps) steps) (map (timed_in table grid) p.timed);
  initial = state_of_row (map (is_fact p) table);
  goal = meaning (left_of p table (goal_of p));
}

-- the box of a plan on a grid
abbrev pub box_on : ℕ → PlainProblem → List PlainPlaced → PlainBox
box_on grid p steps = box_over p (atoms_of_plan p steps) grid steps

-- the least grid on which all starts and durations lie, and all bounds of the events
abbrev pub grid_of_plan : PlainProblem → List PlainPlaced → ℕ
grid_of_plan p steps = base_grid (times_of p steps)

abbrev pub box_of_plan : PlainProblem → List PlainPlaced → PlainBox
box_of_plan p steps = box_on (grid_of_plan p steps) p steps

-- A plan is strong where its box is: on every finer grid and for every choice of the uncertain durations and of the
-- moments of events the run executes.
abbrev pub IsStrongPlan : PlainProblem → List PlainPlaced → Type 0
IsStrongPlan p steps = IsStrong (box_of_plan p steps)
