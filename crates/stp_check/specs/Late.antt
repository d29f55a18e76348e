-- Steps that end late, so that what has to hold inside some step does not hold.
use Rattle.std.specs.Prelude.{◌≡◌, ℕ, ◌<◌, ◌≤◌, Bool, true, false, not, List, map, filter, All, Contains, ◌⊎◌}
use Rattle.stp_base.specs.declared.ids.StepId.{StepId}
use Rattle.stp_cond.specs.declared.cond.Cond.TheVariants.{True}
use Rattle.stp_cond.specs.Atoms.{has}
use Rattle.stp_cond.specs.Truth.{state_of_row}
use Rattle.stp_window.specs.States.{certain, state_at}
use Rattle.stp_window.specs.Views.{box_of}
use Rattle.stp_window.specs.Windows.{Point, OpenSpan, WindowBox, IsProper, is_unsettled}
use Rattle.stp_strength.specs.Facts.{IsKeptAt, lows}
use Rattle.stp_strength.specs.Failures.{all_calm}
use Rattle.stp_window.specs.declared.windows.Window.{Window}
use Rattle.stp_window.specs.declared.windows.Lasting.{Lasting}

-- the numbers of steps
abbrev pub numbers_of : List StepId → List ℕ
numbers_of steps = map (λ s. s.0) steps

-- the box that these make, of which the goal does not matter
abbrev pub box_inside : List Window → List Lasting → List Bool → WindowBox
box_inside windows steps initial = box_of windows steps initial True

-- what has to hold inside a step does at each moment at which a window begins, whichever unsettled ends have come
abbrev pub IsKept : WindowBox → Type 0
IsKept b = All (λ s. All (IsKeptAt b s) (lows b)) b.spans

-- a row has what is certain at a moment of a box in which points that interfere never meet
pub record IsRowAt (b : WindowBox) (t : ℕ) (row : List Bool) : Type 0 where
  pub proper : IsProper b
  pub calm : all_calm b ≡ true
  pub is_certain : (a : ℕ) → state_of_row row a ≡ certain b t a

-- and these are the points that are unsettled then
pub record IsViewAt (b : WindowBox) (t : ℕ) (row : List Bool) (unsettled : List Point) : Type 0 where
  pub at_row : IsRowAt b t row
  pub are_unsettled : unsettled ≡ filter (is_unsettled t) b.points

-- the points whose steps are not among the late ones
abbrev pub is_on_time : List ℕ → Point → Bool
is_on_time late p = not (has late p.step)

-- a step has a point that is unsettled at a moment
abbrev pub IsUnsettledStep : WindowBox → ℕ → ℕ → Type 0
IsUnsettledStep b t n = (p : Point) × Contains b.points p × (is_unsettled t p ≡ true) × (p.step ≡ n)

-- At a moment inside a step what has to hold there does not hold where of the unsettled ends those have come
-- whose steps are not among the late ones. Late are the step itself, and other steps that are unsettled then.
pub record IsBrokenAt (b : WindowBox) (late : List ℕ) (s : OpenSpan) (t : ℕ) : Type 0 where
  pub there : Contains b.spans s
  pub from : s.from ≤ t
  pub to : t < s.end.high
  pub own : is_on_time late s.end ≡ false
  pub fails : s.over (state_at b t (is_on_time late)) ≡ false
  pub few : All (λ n. (n ≡ s.end.step) ⊎ IsUnsettledStep b t n) late

-- where these steps end after a moment, and all others as soon as they may, what has to hold inside some step does not hold then
abbrev pub IsBroken : WindowBox → ℕ → List ℕ → Type 0
IsBroken b t late = (s : OpenSpan) × IsBrokenAt b late s t
