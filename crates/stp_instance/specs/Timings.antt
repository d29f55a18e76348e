-- How long an action lasts under a binding, by the timing of its schema.
use Rattle.std.specs.Prelude.{◌≡◌, ℕ, true, ◌&&◌, if◌then◌else◌, List, Option, Some, None, option_map, IfSome}
use Rattle.std.specs.Ordering.{is_eq}
use Rattle.stp_frac.specs.Fractions.{Fraction, order_of, is_less, is_at_most, zero}
use Rattle.stp_schema.specs.Schemas as schemas
use Rattle.stp_schema.specs.Views.{PlainGiven}
use Rattle.stp_task.specs.Durations.{PlainDuration, Instant, Controlled, Uncertain, is_lawful}
use Rattle.stp_instance.specs.Values.{value}

-- both bounds, where both are there, the low one is above 0, and it is at most the high one
abbrev pub bounds_of : Option Fraction → Option Fraction → Option (Fraction × Fraction)
bounds_of None high = None
bounds_of (Some low) None = None
bounds_of (Some low) (Some high) = if is_less zero low && is_at_most low high then Some (low, high) else None

abbrev pub controlled : Fraction × Fraction → PlainDuration
controlled bounds = Controlled bounds.0 bounds.1

-- between equal bounds nothing is uncertain
abbrev pub uncertain : Fraction × Fraction → PlainDuration
uncertain bounds = if is_eq (order_of bounds.0 bounds.1) then Controlled bounds.0 bounds.1 else Uncertain bounds.0 bounds.1

-- the duration that a timing gives, where its bounds have lawful values
abbrev pub duration_of : List PlainGiven → List ℕ → schemas.PlainTiming → Option PlainDuration
duration_of given binding schemas.Instant = Some Instant
duration_of given binding (schemas.Controlled low high) = option_map controlled (bounds_of (value given binding low) (value given binding high))
duration_of given binding (schemas.Uncertain low high) = option_map uncertain (bounds_of (value given binding low) (value given binding high))

-- the duration that a timing gives is lawful
abbrev pub DurationsAreLawful : Type 0
DurationsAreLawful = (given : List PlainGiven) (binding : List ℕ) (timing : schemas.PlainTiming) → IfSome (duration_of given binding timing) (λ d. is_lawful d ≡ true)
