-- The windows that the owners of a box make.
use Rattle.std.specs.Prelude.{◌≡◌, ℕ, ◌<◌, ◌≤◌, true, false, List, [], ◌∷◌, ◌++◌, All, Option, Some, None, IfSome}
use Rattle.stp_cond.specs.Atoms.{PlainEvent, ReadsAlone}
use Rattle.stp_happen.specs.Boxes.{PlainInside, PlainOwner, PlainBox}
use Rattle.stp_happen.specs.Owners.{AreNumbered}
use Rattle.stp_window.specs.Windows.{Point, OpenSpan, WindowBox}

-- ---- points and spans

-- what happens at the end of an owner without a last event
abbrev pub no_event : PlainEvent
no_event = record { cond = λ state. true; reads = []; adds = []; dels = [] }

abbrev pub event_or_none : Option PlainEvent → PlainEvent
event_or_none None = no_event
event_or_none (Some event) = event

-- the point of an event, if there is one
abbrev pub event_points : ℕ → ℕ → ℕ → Option PlainEvent → List Point
event_points number low high None = []
event_points number low high (Some event) = record { low = low; high = high; step = number; event = event } ∷ []

abbrev pub first_point : PlainOwner → Point
first_point o = record { low = o.start; high = o.start; step = o.number; event = event_or_none o.first }

abbrev pub end_point : PlainOwner → Point
end_point o = record { low = o.low; high = o.high; step = o.number; event = event_or_none o.last }

abbrev pub points_of_owner : PlainOwner → List Point
points_of_owner o = event_points o.number o.start o.start o.first ++ event_points o.number o.low o.high o.last

abbrev pub points_of_owners : List PlainOwner → List Point
points_of_owners [] = []
points_of_owners (o ∷ os) = points_of_owner o ++ points_of_owners os

-- the span from a start to an end of what has to hold inside, if there is anything
abbrev pub open_spans : ℕ → Point → Option PlainInside → List OpenSpan
open_spans from end None = []
open_spans from end (Some inside) = record { from = from; end = end; key = inside.key; over = inside.over } ∷ []

abbrev pub open_spans_of_owner : PlainOwner → List OpenSpan
open_spans_of_owner o = open_spans o.start (end_point o) o.inside

abbrev pub open_spans_of_owners : List PlainOwner → List OpenSpan
open_spans_of_owners [] = []
open_spans_of_owners (o ∷ os) = open_spans_of_owner o ++ open_spans_of_owners os

-- the windows of a box
abbrev pub windows_of : PlainBox → WindowBox
windows_of box = record { points = points_of_owners box.owners; spans = open_spans_of_owners box.owners; initial = box.initial; goal = box.goal }

-- ---- well made owners

-- What the law of strength needs of an owner: start, low and high in order, the start before the low where it has
-- both events; low at high unless it is uncertain; a first event where something has to hold inside; a last
-- event, or something inside; and conditions that depend only on what is read.
pub record IsWellMade (o : PlainOwner) : Type 0 where
  pub up : o.start ≤ o.low
  pub ordered : o.low ≤ o.high
  pub certain : o.uncertain ≡ false → o.low ≡ o.high
  pub lasting : (o.first ≡ None → ⊥) → (o.last ≡ None → ⊥) → o.start < o.low
  pub begun : o.first ≡ None → o.inside ≡ None
  pub ended : o.last ≡ None → o.inside ≡ None → ⊥
  pub first_reads : IfSome o.first ReadsAlone
  pub last_reads : IfSome o.last ReadsAlone

pub record AreWellMade (owners : List PlainOwner) : Type 0 where
  pub each : All IsWellMade owners
  pub numbered : AreNumbered owners
