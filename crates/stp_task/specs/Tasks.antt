-- Tasks without pointers.
use Rattle.std.specs.Prelude.{ℕ, Bool, List, map}
use Rattle.stp_cond.specs.Formulas.{Formula, view}
use Rattle.stp_frac.specs.Fractions.{Fraction, value_of}
use Rattle.stp_tables.specs.Atoms.{Atom}
use Rattle.stp_task.specs.Actions.{PlainAction, PlainHappening, action_of, happening_of}
use Rattle.stp_task.specs.declared.task.Task.{Task}
use Rattle.stp_task.specs.declared.task.TimedEvent.{TimedEvent}

-- an event of the environment at a time
pub record PlainTimedEvent : Type 0 where
  pub at : Fraction
  pub event : PlainHappening

-- numbered atoms, whether each is true at first, the actions, the events of the environment, and the goal
pub record PlainTask : Type 0 where
  pub atoms : List Atom
  pub initial : List Bool
  pub actions : List PlainAction
  pub timed : List PlainTimedEvent
  pub goal : Formula
  pub grid : ℕ

abbrev pub timed_event_of : TimedEvent → PlainTimedEvent
timed_event_of e = record { at = value_of e.at; event = happening_of e.event }

abbrev pub plain_task : Task → PlainTask
plain_task t = record {
  atoms = t.atoms;
  initial = t.initial;
  actions = map action_of t.actions;
  timed = map timed_event_of t.timed;
  goal = view t.goal.now;
  grid = t.grid;
}
