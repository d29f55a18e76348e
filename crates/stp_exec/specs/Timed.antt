-- Steps and events of the environment in time, and the grid on which they lie.
use Rattle.std.specs.Prelude.{ℕ, ◌+◌, ◌*◌, ◌/◌, unsigned_abs, nat_lt, Bool, ◌&&◌, ◌||◌, not, if◌then◌else◌, List, [], ◌∷◌, ◌++◌, flat_map, Option, Some, None}
use Rattle.std.specs.List.{list_all}
use Rattle.stp_base.specs.declared.limits.TheConstants.{MAX_TIME}
use Rattle.stp_frac.specs.Divisors.{divides, lcm}
use Rattle.stp_frac.specs.Fractions.{Fraction, value_of, is_below_zero, zero}
use Rattle.stp_schema.specs.Timed.{PlainTimedFact}
use Rattle.stp_exec.specs.declared.timed_step.TimedStep.{TimedStep}
use Rattle.stp_exec.specs.declared.moments.Moments.{Moments}
use Rattle.stp_exec.specs.Held.{PlainHeld, Instant, Fixed, Open, plain_held, is_lawful_held}

-- a step in time
pub record PlainTimedStep : Type 0 where
  pub start : Fraction
  pub held : PlainHeld

abbrev pub plain_timed : TimedStep → PlainTimedStep
plain_timed step = record { start = value_of step.start; held = plain_held step.held }

-- whether it starts from 0 on, and lasts a lawful time
abbrev pub is_lawful_timed : PlainTimedStep → Bool
is_lawful_timed step = not (is_below_zero step.start.top) && is_lawful_held step.held

-- when the steps of a plan start and how long they last, and when the events of the environment come
pub record PlainTimes : Type 0 where
  pub steps : List PlainTimedStep
  pub events : List PlainTimedFact

-- ---- the base grid

abbrev pub held_denominators : PlainHeld → List ℕ
held_denominators Instant = []
held_denominators (Fixed duration) = duration.bottom ∷ []
held_denominators (Open low high) = low.bottom ∷ high.bottom ∷ []

-- the denominators of a step's start, and of its duration or of both its bounds
abbrev pub denominators : PlainTimedStep → List ℕ
denominators step = step.start.bottom ∷ held_denominators step.held

-- those of both bounds of an event
abbrev pub event_denominators : PlainTimedFact → List ℕ
event_denominators e = e.low.bottom ∷ e.high.bottom ∷ []

-- those of all steps and events
abbrev pub all_denominators : PlainTimes → List ℕ
all_denominators times = flat_map denominators times.steps ++ flat_map event_denominators times.events

-- the least common multiple of numbers from 1 on; 1 where there are none
abbrev pub common_multiple : List ℕ → ℕ
common_multiple [] = 1
common_multiple (n ∷ ns) = lcm n (common_multiple ns)

-- the number of moments in a unit of time
abbrev pub base_grid : PlainTimes → ℕ
base_grid times = common_multiple (all_denominators times)

-- whether a step lies on a grid
abbrev pub lies_on : ℕ → PlainTimedStep → Bool
lies_on grid step = list_all (λ d. divides d grid) (denominators step)

-- whether an event does
abbrev pub event_lies_on : ℕ → PlainTimedFact → Bool
event_lies_on grid e = list_all (λ d. divides d grid) (event_denominators e)

-- ---- moments

-- how many parts of a grid a number from 0 on is, where its denominator divides the grid
abbrev pub count_of : ℕ → Fraction → ℕ
count_of grid f = unsigned_abs f.top * (grid / f.bottom)

-- the first and the last moment at which a step may end that starts at a moment
abbrev pub ends_of : ℕ → ℕ → PlainHeld → ℕ × ℕ
ends_of grid start Instant = (start, start)
ends_of grid start (Fixed duration) = (start + count_of grid duration, start + count_of grid duration)
ends_of grid start (Open low high) = (start + count_of grid low, start + count_of grid high)

-- the moments between which a step starts and ends
abbrev pub moments_between : ℕ → ℕ × ℕ → Moments
moments_between start ends = record { start = start; low = ends.0; high = ends.1 }

abbrev pub moments_of : ℕ → PlainTimedStep → Moments
moments_of grid step = let start = count_of grid step.start in moments_between start (ends_of grid start step.held)

-- ---- limits

-- the greatest time that a step may last
abbrev pub greatest_of : PlainHeld → Fraction
greatest_of Instant = zero
greatest_of (Fixed duration) = duration
greatest_of (Open low high) = high

-- whether two numbers from 0 on are more than the greatest time together
abbrev pub is_sum_late : Fraction → Fraction → Bool
is_sum_late f g =
    nat_lt (MAX_TIME * (f.bottom * g.bottom)) (unsigned_abs f.top * g.bottom + unsigned_abs g.top * f.bottom)

-- whether a step starts, or may end, after the greatest time
abbrev pub is_too_late : PlainTimedStep → Bool
is_too_late step = is_sum_late step.start zero || is_sum_late step.start (greatest_of step.held)

-- the number of the first such step, where n is the number of the first step
abbrev pub late_from : ℕ → List PlainTimedStep → Option ℕ
late_from n [] = None
late_from n (step ∷ steps) = if is_too_late step then Some n else late_from (n + 1) steps

-- its number, from 1
abbrev pub first_too_late : List PlainTimedStep → Option ℕ
first_too_late steps = late_from 1 steps
