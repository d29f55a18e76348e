-- What each box keeps.
use Rattle.std.specs.Prelude.{◌≡◌, ℕ, ◌*◌, ◌<◌, ◌≤◌, Bool, true, false, not, List, filter, length, All, None, IfSome}
use Rattle.stp_base.specs.declared.limits.TheConstants.{MAX_EVENTS, MAX_GRID, MAX_MOMENT, MAX_STEPS, MAX_TIMED}
use Rattle.stp_cond.specs.declared.cond.Cond.{Cond}
use Rattle.stp_cond.specs.Truth.{is_below}
use Rattle.stp_happen.specs.declared.boxes.BoxStep.{BoxStep}
use Rattle.stp_happen.specs.declared.boxes.BoxTimed.{BoxTimed}
use Rattle.stp_happen.specs.Owners.{timed_before}
use Rattle.stp_happen.specs.StepViews.{timed_of}
use Rattle.stp_happen.specs.Sound.{IsEventInRange, is_ascending, last_moment}

-- What each step of a box keeps: start before low where there is a last event, and start at low where
-- there is none; low up to high, and equal unless the step is uncertain.
pub record IsBoxStep (grid n : ℕ) (s : BoxStep) : Type 0 where
  pub up : s.low ≤ s.high
  pub high : s.high ≤ last_moment grid
  pub certain : s.uncertain ≡ false → s.low ≡ s.high
  pub lasting : IfSome s.last (λ e. s.start < s.low)
  pub instant : s.last ≡ None → (s.start ≡ s.low) × (s.uncertain ≡ false)
  pub first_in_range : IsEventInRange n s.first
  pub last_in_range : IfSome s.last (IsEventInRange n)
  pub over_in_range : is_below n s.over.now ≡ true

-- What each event of the environment in a box keeps: low up to high, within 100,000,000 units, and equal unless
-- its moment is chosen.
pub record IsBoxTimed (grid n : ℕ) (e : BoxTimed) : Type 0 where
  pub up : e.low ≤ e.high
  pub high : e.high ≤ MAX_MOMENT * grid
  pub certain : e.uncertain ≡ false → e.low ≡ e.high
  pub event_in_range : IsEventInRange n e.event

-- What each box keeps: a grid from 1 to 999,999,999, at most 500 steps, at most 100 events of the environment at
-- fixed moments and 30 at chosen ones, those at fixed moments first and by moment, and atoms that the first state has.
pub record IsBox (grid : ℕ) (steps : List BoxStep) (timed : List BoxTimed) (initial : List Bool) (goal : Cond) : Type 0 where
  pub grid_low : 1 ≤ grid
  pub grid_high : grid ≤ MAX_GRID
  pub few : length steps ≤ MAX_STEPS
  pub few_fixed : length (filter (λ e. not e.uncertain) (timed_of timed)) ≤ MAX_TIMED
  pub few_chosen : length (filter (λ e. e.uncertain) (timed_of timed)) ≤ MAX_EVENTS
  pub steps_in_range : All (IsBoxStep grid (length initial)) steps
  pub timed_in_range : All (IsBoxTimed grid (length initial)) timed
  pub timed_ordered : is_ascending timed_before (timed_of timed) ≡ true
  pub goal_in_range : is_below (length initial) goal ≡ true
