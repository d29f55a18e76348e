-- The owners that the steps of a plan and the events of the environment make.
use Rattle.std.specs.Prelude.{◌≡◌, ℕ, ◌+◌, ◌*◌, ◌<◌, ◌≤◌, ◌↔◌, nat_lt, Bool, false, not, ◌&&◌, ◌||◌, if◌then◌else◌, List, [], ◌∷◌, ◌++◌, map, filter, length, All, Option, Some, None}
use Rattle.stp_cond.specs.Atoms.{PlainEvent}
use Rattle.stp_happen.specs.Boxes.{PlainOwner, IsVector, finer_owner}

-- a step: its start, its least and greatest end, and what happens at both
pub record PlainBoxStep : Type 0 where
  pub start : ℕ
  pub low : ℕ
  pub high : ℕ
  pub uncertain : Bool
  pub key : ℕ
  pub first : PlainEvent
  pub last : Option PlainEvent
  pub over : (ℕ → Bool) → Bool

-- an event of the environment: its least and greatest moment, and what happens then
pub record PlainBoxTimed : Type 0 where
  pub low : ℕ
  pub high : ℕ
  pub uncertain : Bool
  pub event : PlainEvent

abbrev pub step_owner : ℕ → PlainBoxStep → PlainOwner
step_owner number s = record {
  number = number;
  start = s.start;
  low = s.low;
  high = s.high;
  uncertain = s.uncertain;
  first = Some s.first;
  last = s.last;
  inside = Some (record { key = s.key; over = s.over });
}

-- the owners of steps that are numbered from here on
abbrev pub step_owners : ℕ → List PlainBoxStep → List PlainOwner
step_owners number [] = []
step_owners number (s ∷ ss) = step_owner number s ∷ step_owners (number + 1) ss

-- An event starts at 0, so that the time from its start to its end is its moment. At a fixed moment it has the
-- number 0, at a chosen one the next number.
abbrev pub timed_owner : ℕ → PlainBoxTimed → PlainOwner
timed_owner number e = record {
  number = if e.uncertain then number else 0;
  start = 0;
  low = e.low;
  high = e.high;
  uncertain = e.uncertain;
  first = None;
  last = Some e.event;
  inside = None;
}

-- the next number after an event
abbrev pub number_after : ℕ → PlainBoxTimed → ℕ
number_after number e = if e.uncertain then number + 1 else number

-- the owners of events whose chosen ones are numbered from here on
abbrev pub timed_owners : ℕ → List PlainBoxTimed → List PlainOwner
timed_owners number [] = []
timed_owners number (e ∷ es) = timed_owner number e ∷ timed_owners (number_after number e) es

-- steps are numbered from 1, and the events at chosen moments after them
abbrev pub owners_of : List PlainBoxStep → List PlainBoxTimed → List PlainOwner
owners_of steps timed = step_owners 1 steps ++ timed_owners (length steps + 1) timed

-- events at fixed moments come first, each later than those before it
abbrev pub timed_before : PlainBoxTimed → PlainBoxTimed → Bool
timed_before e f = f.uncertain || (not e.uncertain && nat_lt e.high f.high)

-- ---- the numbers of owners

-- an event of the environment at a fixed moment
pub record IsTimed (o : PlainOwner) : Type 0 where
  pub first : o.first ≡ None
  pub inside : o.inside ≡ None
  pub certain : o.uncertain ≡ false

-- two events of the environment at different fixed moments
pub record AreTimedApart (x y : PlainOwner) : Type 0 where
  pub one : IsTimed x
  pub other : IsTimed y
  pub apart : x.high ≡ y.high → ⊥

-- owners have numbers of their own, but for events of the environment at different fixed moments
abbrev pub AreNumbered : List PlainOwner → Type 0
AreNumbered [] = Unit {0}
AreNumbered (x ∷ xs) = All (λ y. x.number ≡ y.number → AreTimedApart x y) xs × AreNumbered xs

-- all but events of the environment at fixed moments stand by their numbers
abbrev pub AreInOrder : List PlainOwner → Type 0
AreInOrder [] = Unit {0}
AreInOrder (x ∷ xs) = All (λ y. (IsTimed y → ⊥) → x.number < y.number) xs × AreInOrder xs

-- ---- vectors in terms of steps and events

-- one duration for each of these steps, in order, with which it ends within its bounds
abbrev pub AreDurations : List PlainBoxStep → List ℕ → Type 0
AreDurations [] durations = durations ≡ []
AreDurations (s ∷ ss) [] = ⊥
AreDurations (s ∷ ss) (d ∷ ds) = (s.low ≤ s.start + d) × (s.start + d ≤ s.high) × AreDurations ss ds

-- one moment for each of these events, in order, within its bounds
abbrev pub AreMoments : List PlainBoxTimed → List ℕ → Type 0
AreMoments [] moments = moments ≡ []
AreMoments (e ∷ es) [] = ⊥
AreMoments (e ∷ es) (t ∷ ts) = (e.low ≤ t) × (t ≤ e.high) × AreMoments es ts

-- a vector has a duration for each uncertain step, and then a moment for each event at a chosen moment
abbrev pub VectorsAreDurationsAndMoments : Type 0
VectorsAreDurationsAndMoments = (steps : List PlainBoxStep) (timed : List PlainBoxTimed) (vector : List ℕ) →
    IsVector (owners_of steps timed) vector
    ↔ ((durations : List ℕ) × (moments : List ℕ) × (vector ≡ durations ++ moments) × AreDurations (filter (λ s. s.uncertain) steps) durations × AreMoments (filter (λ e. e.uncertain) timed) moments)

-- ---- finer grids

abbrev pub finer_step : ℕ → PlainBoxStep → PlainBoxStep
finer_step k s = record s { start = k * s.start; low = k * s.low; high = k * s.high }

abbrev pub finer_timed : ℕ → PlainBoxTimed → PlainBoxTimed
finer_timed k e = record e { low = k * e.low; high = k * e.high }

-- the owners of finer steps and events are the finer owners
abbrev pub OwnersAreFiner : Type 0
OwnersAreFiner = (k : ℕ) (steps : List PlainBoxStep) (timed : List PlainBoxTimed) →
    owners_of (map (finer_step k) steps) (map (finer_timed k) timed) ≡ map (finer_owner k) (owners_of steps timed)
