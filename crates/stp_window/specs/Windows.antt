-- Boxes by their windows: each event comes at a moment of its window, and a choice of moments makes a run.
use Rattle.std.specs.Prelude.{◌≡◌, ℕ, ◌≤◌, nat_lt, nat_le, Bool, ◌&&◌, List, map, All, Contains, ◌⊎◌}
use Rattle.stp_cond.specs.Atoms.{PlainEvent, ReadsAlone}
use Rattle.stp_happen.specs.Plain.{PlainEntry, PlainSpan, PlainRun}

-- an event of a step, and the least and the greatest moment at which it may come
pub record Point : Type 0 where
  pub low : ℕ
  pub high : ℕ
  pub step : ℕ
  pub event : PlainEvent

-- when a step starts, the point at which it ends, which action it is of, and what has to hold inside
pub record OpenSpan : Type 0 where
  pub from : ℕ
  pub end : Point
  pub key : ℕ
  pub over : (ℕ → Bool) → Bool

pub record WindowBox : Type 0 where
  pub points : List Point
  pub spans : List OpenSpan
  pub initial : ℕ → Bool
  pub goal : (ℕ → Bool) → Bool

-- ---- the run of chosen moments

abbrev pub entry_at : (Point → ℕ) → Point → PlainEntry
entry_at moment p = record { time = moment p; step = p.step; event = p.event }

abbrev pub span_at : (Point → ℕ) → OpenSpan → PlainSpan
span_at moment s = record { from = s.from; to = moment s.end; step = s.end.step; key = s.key; over = s.over }

-- the run in which each point comes at its moment
abbrev pub run_when : WindowBox → (Point → ℕ) → PlainRun
run_when b moment = record {
  entries = map (entry_at moment) b.points;
  spans = map (span_at moment) b.spans;
  initial = b.initial;
  goal = b.goal;
}

abbrev pub IsInWindow : (Point → ℕ) → Point → Type 0
IsInWindow moment p = (p.low ≤ moment p) × (moment p ≤ p.high)

-- each event and each end has a moment of its window
abbrev pub IsChoice : WindowBox → (Point → ℕ) → Type 0
IsChoice b moment = All (IsInWindow moment) b.points × All (λ s. IsInWindow moment s.end) b.spans

-- ---- boxes that are well made

-- two windows have a common moment
abbrev pub Meet : Point → Point → Type 0
Meet p q = (p.low ≤ q.high) × (q.low ≤ p.high)

-- two points of one step have windows without a common moment
abbrev pub ArePartedIfOne : Point → Point → Type 0
ArePartedIfOne p q = p.step ≡ q.step → Meet p q → p ≡ q

-- a span goes up, and starts at the moment of a point
abbrev pub IsStarted : List Point → OpenSpan → Type 0
IsStarted points s = (s.from ≤ s.end.low) × (s.end.low ≤ s.end.high) × ((p : Point) × Contains points p × (p.low ≡ s.from) × (p.high ≡ s.from))

-- a point of a span's step is its end, or comes by its start
abbrev pub IsOwn : OpenSpan → Point → Type 0
IsOwn s p = p.step ≡ s.end.step → (p ≡ s.end) ⊎ (p.high ≤ s.from)

pub record IsProper (b : WindowBox) : Type 0 where
  pub ordered : All (λ p. p.low ≤ p.high) b.points
  pub reading : All (λ p. ReadsAlone p.event) b.points
  pub parted : All (λ p. All (ArePartedIfOne p) b.points) b.points
  pub started : All (IsStarted b.points) b.spans
  pub owned : All (λ s. All (IsOwn s) b.points) b.spans

-- ---- tests

-- two windows have a common moment
abbrev pub may_meet : Point → Point → Bool
may_meet p q = nat_le p.low q.high && nat_le q.low p.high

-- the window of a point has begun by a moment, and has not ended
abbrev pub is_unsettled : ℕ → Point → Bool
is_unsettled t p = nat_le p.low t && nat_lt t p.high
