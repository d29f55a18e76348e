-- How long steps last, beside how long their actions may last.
use Rattle.std.specs.Prelude.{◌≡◌, ℕ, Bool, true, false}
use Rattle.stp_task.specs.Durations as durations
use Rattle.stp_task.specs.Durations.{PlainDuration}
use Rattle.stp_exec.specs.Held.{PlainHeld, Instant, Fixed, Open, is_within, is_pair}
use Rattle.stp_exec.specs.Timed.{PlainTimedStep, lies_on, is_too_late}

-- whether a step takes time
abbrev pub takes_time : PlainHeld → Bool
takes_time Instant = false
takes_time (Fixed duration) = true
takes_time (Open low high) = true

-- whether the environment chooses how long it lasts
abbrev pub is_open : PlainHeld → Bool
is_open Instant = false
is_open (Fixed duration) = false
is_open (Open low high) = true

-- Whether a step lasts as its action may: at once; a time of the plan's choice within its bounds; or one that the
-- environment chooses, between the action's own bounds.
abbrev pub fits : PlainDuration → PlainHeld → Bool
fits durations.Instant Instant = true
fits durations.Instant (Fixed duration) = false
fits durations.Instant (Open low high) = false
fits (durations.Controlled least most) Instant = false
fits (durations.Controlled least most) (Fixed duration) = is_within least most duration
fits (durations.Controlled least most) (Open low high) = false
fits (durations.Uncertain least most) Instant = false
fits (durations.Uncertain least most) (Fixed duration) = false
fits (durations.Uncertain least most) (Open low high) = is_pair least most low high

-- a step that lies on a grid, and neither starts nor may end after the greatest time
pub record IsTimely (grid : ℕ) (t : PlainTimedStep) : Type 0 where
  pub lies : lies_on grid t ≡ true
  pub early : is_too_late t ≡ false
