-- Ground actions without pointers.
use Rattle.std.specs.Prelude.{ℕ, Bool, List, map, Option, option_map}
use Rattle.stp_cond.specs.declared.event.Event.{Event}
use Rattle.stp_cond.specs.Atoms.{PlainEvent}
use Rattle.stp_cond.specs.Formulas.{Formula, holds_in, view}
use Rattle.stp_cond.specs.Views.{atoms_of}
use Rattle.stp_task.specs.Durations.{PlainDuration, plain_duration}
use Rattle.stp_task.specs.declared.action.GroundAction.{GroundAction}

-- an event: the formula that it needs, and the atoms that it reads, adds and deletes
pub record PlainHappening : Type 0 where
  pub cond : Formula
  pub reads : List ℕ
  pub adds : List ℕ
  pub dels : List ℕ

abbrev pub happening_of : Event → PlainHappening
happening_of e = record { cond = view e.cond.now; reads = atoms_of e.reads.now; adds = atoms_of e.adds.now; dels = atoms_of e.dels.now }

-- a schema with objects for its parameters: how long it lasts, what happens at its ends, and what holds all through it
pub record PlainAction : Type 0 where
  pub schema : ℕ
  pub args : List ℕ
  pub duration : PlainDuration
  pub start : PlainHappening
  pub finish : Option PlainHappening
  pub over : Formula

abbrev pub action_of : GroundAction → PlainAction
action_of a = record {
  schema = a.schema;
  args = map (λ o. o.0) a.args.now;
  duration = plain_duration a.duration;
  start = happening_of a.start;
  finish = option_map happening_of a.finish;
  over = view a.over.now;
}

-- ---- what they mean

-- what a formula says of a state
abbrev pub meaning : Formula → (ℕ → Bool) → Bool
meaning f state = holds_in state f

abbrev pub event_in : PlainHappening → PlainEvent
event_in h = record { cond = meaning h.cond; reads = h.reads; adds = h.adds; dels = h.dels }
