-- The task of a problem, or the first refusal.
use Rattle.std.specs.Prelude.{ℕ, ◌+◌, ◌≤◌, pos, nat_lt, Bool, if◌then◌else◌, List, [], ◌∷◌, ◌++◌, map, flat_map, length, Option, Some, None, option_map, Result, Ok, Err}
use Rattle.std.specs.List.{All, list_any, position}
use Prim.Native.Nat.{◌∣◌}
use Rattle.stp_base.specs.declared.limits.TheConstants.{MAX_BINDINGS, MAX_ACTIONS, MAX_ACTION_NODES, MAX_ATOMS, MAX_DURATION, MAX_DURATION_GRID}
use Rattle.stp_frac.specs.Divisors.{lcm}
use Rattle.stp_frac.specs.Fractions.{Fraction, is_less}
use Rattle.stp_schema.specs.Timed.{PlainTimedFact, is_chosen}
use Rattle.stp_schema.specs.Views.{PlainProblem}
use Rattle.stp_tables.specs.Atoms.{Atom}
use Rattle.stp_task.specs.Durations.{PlainDuration, Instant, Controlled, Uncertain}
use Rattle.stp_task.specs.Tasks.{PlainTask, PlainTimedEvent}
use Rattle.stp_instance.specs.Numbered.{with_atoms}
use Rattle.stp_ground.specs.Problems.{event_atoms, goal_atoms, goal_of, initial_atoms, is_fact}
use Rattle.stp_ground.specs.Ground.{action_by, atoms_of_chosen, event_by, left_of}
use Rattle.stp_kept.specs.declared.fault.GroundFault.{GroundFault}
use Rattle.stp_kept.specs.declared.fault.GroundFault.TheVariants.{UncontrollableEvent, TooManyBindings, TooManyActions, TooManyNodes, TooManyAtoms, DurationTooLarge, GridTooFine}
use Rattle.stp_kept.specs.Instances.{PlainInstance, chosen_of, kept}
use Rattle.stp_kept.specs.Counts.{binding_count, node_count}

-- ---- atoms

-- the fluent atoms of these instances, in the order in which they are numbered
abbrev pub atoms_of_instances : PlainProblem → List PlainInstance → List Atom
atoms_of_instances p instances = flat_map (λ i. atoms_of_chosen p (chosen_of p i)) instances

-- those of a problem before them: what is true at first, then the events of the environment, and the goal
abbrev pub atoms_before : PlainProblem → List Atom
atoms_before p = with_atoms (with_atoms (with_atoms [] (initial_atoms p)) (event_atoms p)) (goal_atoms p)

-- and then the kept instances
abbrev pub task_atoms : PlainProblem → List Atom
task_atoms p = with_atoms (atoms_before p) (atoms_of_instances p (kept p))

-- ---- durations and times

abbrev pub duration_bounds : PlainDuration → List Fraction
duration_bounds Instant = []
duration_bounds (Controlled low high) = low ∷ high ∷ []
duration_bounds (Uncertain low high) = low ∷ high ∷ []

-- the greatest time that is accepted
abbrev pub longest : Fraction
longest = record { top = pos MAX_DURATION; bottom = 1 }

abbrev pub is_longer : Fraction → Bool
is_longer time = is_less longest time

-- whether an action may last longer than is accepted
abbrev pub is_long : PlainDuration → Bool
is_long duration = list_any is_longer (duration_bounds duration)

-- the number, from 1, of the first such instance
abbrev pub first_too_long : List PlainInstance → Option ℕ
first_too_long instances = option_map (λ place. place + 1) (position (λ i. is_long i.duration) instances)

-- the bounds of all of these instances
abbrev pub bounds_of_instances : List PlainInstance → List Fraction
bounds_of_instances instances = flat_map (λ i. duration_bounds i.duration) instances

-- the times of these events
abbrev pub event_times : List PlainTimedFact → List Fraction
event_times events = map (λ e. e.high) events

-- events at fixed times lie on a grid
pub record LieOn (grid : ℕ) (events : List PlainTimedFact) : Type 0 where
  pub low : 1 ≤ grid
  pub all : All (λ (e : PlainTimedFact). e.high.bottom ∣ grid) events

-- the bounds of all durations, and the times of all events
abbrev pub task_times : PlainProblem → List Fraction
task_times p = bounds_of_instances (kept p) ++ event_times p.timed

-- the least common multiple of the denominators of these; 1 where there are none
abbrev pub grid_of_times : List Fraction → ℕ
grid_of_times [] = 1
grid_of_times (f ∷ fs) = lcm (grid_of_times fs) f.bottom

abbrev pub task_grid : PlainProblem → ℕ
task_grid p = grid_of_times (task_times p)

-- ---- the task

abbrev pub timed_event_by : List Atom → PlainTimedFact → PlainTimedEvent
timed_event_by table e = record { at = e.high; event = event_by table e }

-- the task over a table of atoms
abbrev pub task_over : PlainProblem → List Atom → PlainTask
task_over p table = record {
  atoms = table;
  initial = map (is_fact p) table;
  actions = map (λ i. action_by p table (chosen_of p i)) (kept p);
  timed = map (timed_event_by table) p.timed;
  goal = left_of p table (goal_of p);
  grid = task_grid p;
}

abbrev pub task_of : PlainProblem → PlainTask
task_of p = task_over p (task_atoms p)

-- ---- refusals

abbrev pub too_long_at : ℕ → GroundFault
too_long_at n = DurationTooLarge (record { 0 = n })

-- the first that comes of a duration that is too large and a grid that is too fine
abbrev pub refusal_by : Option ℕ → Bool → Option GroundFault
refusal_by (Some n) too_fine = Some (too_long_at n)
refusal_by None too_fine = if too_fine then Some GridTooFine else None

abbrev pub refusal_of_times : PlainProblem → Option GroundFault
refusal_of_times p = refusal_by (first_too_long (kept p)) (nat_lt MAX_DURATION_GRID (task_grid p))

-- before these, too many nodes and too many atoms
abbrev pub refusal_of_instances : PlainProblem → Option GroundFault
refusal_of_instances p =
    if nat_lt MAX_ACTION_NODES (node_count p) then Some TooManyNodes
    else if nat_lt MAX_ATOMS (length (task_atoms p)) then Some TooManyAtoms
    else refusal_of_times p

-- and before these, an event whose time the environment chooses, too many bindings and too many kept instances
abbrev pub refusal : PlainProblem → Option GroundFault
refusal p =
    if list_any is_chosen p.timed then Some UncontrollableEvent
    else if nat_lt MAX_BINDINGS (binding_count p) then Some TooManyBindings
    else if nat_lt MAX_ACTIONS (length (kept p)) then Some TooManyActions
    else refusal_of_instances p

abbrev pub unless_refused : Option GroundFault → PlainTask → Result PlainTask GroundFault
unless_refused None task = Ok task
unless_refused (Some fault) task = Err fault

abbrev pub task_or_fault : PlainProblem → Result PlainTask GroundFault
task_or_fault p = unless_refused (refusal p) (task_of p)
