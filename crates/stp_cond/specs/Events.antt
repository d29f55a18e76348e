-- What an event in an arena stands for.
use Rattle.std.specs.Prelude.{◌≡◌, ℕ, ◌<◌, true, All}
use Rattle.stp_cond.specs.declared.event.Event.{Event}
use Rattle.stp_cond.specs.Truth.{meaning_of, is_below}
use Rattle.stp_cond.specs.Atoms.{PlainEvent}
use Rattle.stp_cond.specs.Views.{atoms_of}

abbrev pub event_of : Event → PlainEvent
event_of e = record { cond = meaning_of e.cond.now; reads = atoms_of e.reads.now; adds = atoms_of e.adds.now; dels = atoms_of e.dels.now }

-- each atom of an event is below a number
pub record IsEventInRange (n : ℕ) (e : Event) : Type 0 where
  pub cond : is_below n e.cond.now ≡ true
  pub reads : All (λ a. a.0 < n) e.reads.now
  pub adds : All (λ a. a.0 < n) e.adds.now
  pub dels : All (λ a. a.0 < n) e.dels.now
