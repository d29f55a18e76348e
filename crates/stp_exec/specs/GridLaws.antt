-- Laws of the base grid and of moments.
use Rattle.std.specs.Prelude.{◌≡◌, ℕ, ◌*◌, ◌<◌, nat_lt, Bool, true, ◌&&◌}
use Rattle.std.specs.List.{list_all}
use Prim.Native.Nat.{◌∣◌}
use Rattle.stp_schema.specs.Timed.{PlainTimedFact}
use Rattle.stp_exec.specs.declared.moments.Moments.{Moments}
use Rattle.stp_exec.specs.Timed.{PlainTimedStep, PlainTimes, denominators, event_denominators, base_grid, lies_on, event_lies_on, count_of, moments_of}

-- whether the denominators of a step are from 1 on
abbrev pub is_proper : PlainTimedStep → Bool
is_proper step = list_all (λ d. nat_lt 0 d) (denominators step)

-- whether those of an event are
abbrev pub is_proper_event : PlainTimedFact → Bool
is_proper_event e = list_all (λ d. nat_lt 0 d) (event_denominators e)

-- whether all denominators are from 1 on
abbrev pub are_proper : PlainTimes → Bool
are_proper times = list_all is_proper times.steps && list_all is_proper_event times.events

-- whether all steps and events lie on a grid
abbrev pub lie_on : ℕ → PlainTimes → Bool
lie_on grid times = list_all (lies_on grid) times.steps && list_all (event_lies_on grid) times.events

-- all steps and events lie on the base grid
abbrev pub TimesLieOnTheBaseGrid : Type 0
TimesLieOnTheBaseGrid = (times : PlainTimes) → are_proper times ≡ true → lie_on (base_grid times) times ≡ true

-- and it divides each grid on which all of them lie
abbrev pub TheBaseGridIsLeast : Type 0
TheBaseGridIsLeast = (times : PlainTimes) (grid : ℕ) → are_proper times ≡ true → lie_on grid times ≡ true → base_grid times ∣ grid

-- moments on a grid that is finer by a factor
abbrev pub finer : ℕ → Moments → Moments
finer factor m = record { start = factor * m.start; low = factor * m.low; high = factor * m.high }

-- on a finer grid the moments are the same times
abbrev pub FinerGridsKeepMoments : Type 0
FinerGridsKeepMoments = (step : PlainTimedStep) (factor grid : ℕ) → 0 < grid → lies_on grid step ≡ true → moments_of (factor * grid) step ≡ finer factor (moments_of grid step)

-- and so are the bounds of events
abbrev pub FinerGridsKeepEvents : Type 0
FinerGridsKeepEvents = (e : PlainTimedFact) (factor grid : ℕ) → 0 < grid → event_lies_on grid e ≡ true
    → (count_of (factor * grid) e.low ≡ factor * count_of grid e.low) × (count_of (factor * grid) e.high ≡ factor * count_of grid e.high)
