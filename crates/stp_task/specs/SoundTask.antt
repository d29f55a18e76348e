-- What each task keeps.
use Rattle.std.specs.Prelude.{◌≡◌, ℕ, Bool, true, ◌&&◌, List, [], ◌∷◌, length, All, IfSome}
use Rattle.std.specs.List.{list_all}
use Rattle.stp_cond.specs.declared.cond.Cond.{Cond}
use Rattle.stp_cond.specs.Events.{IsEventInRange}
use Rattle.stp_cond.specs.Truth.{is_below}
use Rattle.stp_frac.specs.Fractions.{value_of, is_less}
use Rattle.stp_tables.specs.Atoms.{Atom}
use Rattle.stp_task.specs.declared.action.GroundAction.{GroundAction}
use Rattle.stp_task.specs.declared.task.TimedEvent.{TimedEvent}

-- each atom of an action is below a number
pub record IsActionInRange (n : ℕ) (a : GroundAction) : Type 0 where
  pub start : IsEventInRange n a.start
  pub finish : IfSome a.finish (IsEventInRange n)
  pub over : is_below n a.over.now ≡ true

-- whether each event comes before all that stand after it
abbrev pub are_by_time : List TimedEvent → Bool
are_by_time [] = true
are_by_time (e ∷ es) = list_all (λ f. is_less (value_of e.at) (value_of f.at)) es && are_by_time es

-- What each task keeps: a first value for each atom, no other atoms anywhere, and events by time, no two at one time.
pub record IsTask (atoms : List Atom) (initial : List Bool) (actions : List GroundAction) (timed : List TimedEvent) (goal : Cond) : Type 0 where
  pub each : length initial ≡ length atoms
  pub actions_in_range : All (IsActionInRange (length atoms)) actions
  pub timed_in_range : All (λ e. IsEventInRange (length atoms) e.event) timed
  pub timed_ordered : are_by_time timed ≡ true
  pub goal_in_range : is_below (length atoms) goal ≡ true
