-- Durations that are chosen for the steps that stay open, and moments for the events that do.
use Rattle.std.specs.Prelude.{ℕ, ◌+◌, ◌==◌, nat_le, if◌then◌else◌, List, [], ◌∷◌, ◌++◌, length, map, flat_map, Option, Some, None}
use Rattle.stp_base.specs.declared.limits.TheConstants.{MAX_GRID}
use Rattle.stp_frac.specs.Divisors.{lcm}
use Rattle.stp_frac.specs.Fractions.{Fraction, value_of}
use Rattle.stp_schema.specs.Timed.{PlainTimedFact, is_chosen}
use Rattle.stp_refusal.specs.declared.code.Code.{Code}
use Rattle.stp_refusal.specs.declared.code.Code.TheVariants.{V02, V03, V04}
use Rattle.stp_refusal.specs.declared.phase.ReadFault.{ReadFault}
use Rattle.stp_refusal.specs.declared.phase.ReadFault.TheVariants.{Refused, Memory}
use Rattle.stp_exec.specs.declared.fit.Bounds.{Bounds}
use Rattle.stp_exec.specs.Held.{PlainHeld, Instant, Fixed, Open, is_within}
use Rattle.stp_exec.specs.Timed.{PlainTimedStep, PlainTimes, common_multiple, base_grid}

abbrev pub plain_bounds : Bounds → Fraction × Fraction
plain_bounds bounds = (value_of bounds.low, value_of bounds.high)

abbrev pub held_bounds : PlainHeld → List (Fraction × Fraction)
held_bounds Instant = []
held_bounds (Fixed duration) = []
held_bounds (Open low high) = (low, high) ∷ []

abbrev pub step_bounds : PlainTimedStep → List (Fraction × Fraction)
step_bounds step = held_bounds step.held

-- the bounds of an event whose moment the environment chooses
abbrev pub event_bounds : PlainTimedFact → List (Fraction × Fraction)
event_bounds e = if is_chosen e then (e.low, e.high) ∷ [] else []

-- the bounds of the steps that stay open, in order, and then those of the events that do
abbrev pub open_bounds : PlainTimes → List (Fraction × Fraction)
open_bounds times = flat_map step_bounds times.steps ++ flat_map event_bounds times.events

-- the number of the first duration that is not within its bounds, where n is the number of the first one
abbrev pub outside_from : ℕ → List (Fraction × Fraction) → List Fraction → Option ℕ
outside_from n [] durations = None
outside_from n (b ∷ bounds) [] = None
outside_from n (b ∷ bounds) (d ∷ durations) = if is_within b.0 b.1 d then outside_from (n + 1) bounds durations else Some n

abbrev pub bottoms : List Fraction → List ℕ
bottoms durations = map (λ (d : Fraction). d.bottom) durations

-- the grid on which a plan lies and durations besides
abbrev pub grid_with : PlainTimes → List Fraction → ℕ
grid_with times durations = lcm (base_grid times) (common_multiple (bottoms durations))

-- a duration that is not within its bounds, or else what follows
abbrev pub unless_outside : Option ℕ → Option (Code × ℕ) → Option (Code × ℕ)
unless_outside (Some n) others = Some (V03, n)
unless_outside None others = others

-- a grid that is too fine
abbrev pub unless_fine : ℕ → Option (Code × ℕ)
unless_fine grid = if nat_le grid MAX_GRID then None else Some (V04, 0)

-- Why durations are refused, and the place: there are more or fewer than steps and events that stay open, one is not
-- within its bounds, or the common grid is too fine. The moments of events count among the durations, behind them.
abbrev pub judge_list : PlainTimes → List Fraction → Option (Code × ℕ)
judge_list times durations =
    if length durations == length (open_bounds times)
    then unless_outside (outside_from 1 (open_bounds times) durations) (unless_fine (grid_with times durations))
    else Some (V02, length durations)

-- what a fault refuses
abbrev pub refusal_of : ReadFault → Option (Code × ℕ)
refusal_of (Refused code at) = Some (code, at)
refusal_of Memory = None
