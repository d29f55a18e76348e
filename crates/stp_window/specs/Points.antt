-- The points of steps by their numbers and of events of the environment by their places, and moments that two windows have in common.
use Rattle.std.specs.Prelude.{ℕ, zero, suc, ◌+◌, ◌≤◌, List, length, Option, None, IfSome, slice_get, option_map, option_and_then}
use Rattle.stp_happen.specs.Owners.{PlainBoxStep, PlainBoxTimed, step_owner, timed_owners}
use Rattle.stp_window.specs.Windows.{Point}
use Rattle.stp_window.specs.OwnerWindows.{first_point, end_point}
use Rattle.stp_window.specs.declared.points.PointOf.{PointOf}
use Rattle.stp_window.specs.declared.points.PointOf.TheVariants.{First, Last, Timed}

-- the step with a number, the first having 1
abbrev pub step_numbered : List PlainBoxStep → ℕ → Option PlainBoxStep
step_numbered steps zero = None
step_numbered steps (suc before) = slice_get steps before

-- the end of a step that has a last event
abbrev pub last_point : ℕ → PlainBoxStep → Option Point
last_point number s = option_map (λ event. end_point (step_owner number s)) s.last

-- the point of a step or an event of the environment, if it is there
abbrev pub point_at : List PlainBoxStep → List PlainBoxTimed → PointOf → Option Point
point_at steps timed (First step) = option_map (λ s. first_point (step_owner step.0 s)) (step_numbered steps step.0)
point_at steps timed (Last step) = option_and_then (last_point step.0) (step_numbered steps step.0)
point_at steps timed (Timed place) = option_map end_point (slice_get (timed_owners (length steps + 1) timed) place)

abbrev pub IsInWindow : ℕ → Point → Type 0
IsInWindow t p = (p.low ≤ t) × (t ≤ p.high)

-- a moment lies in both windows
abbrev pub HaveMoment : Point → Point → Type 0
HaveMoment p q = (t : ℕ) × IsInWindow t p × IsInWindow t q

-- two points, where they are there, have this in common
abbrev pub IfBoth : Option Point → Option Point → (Point → Point → Type 0) → Type 0
IfBoth one other P = IfSome one (λ p. IfSome other (P p))
