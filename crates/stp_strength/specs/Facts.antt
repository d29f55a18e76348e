-- The static facts that make a box strong. They speak of windows, and not of moments that are chosen.
use Rattle.std.specs.Prelude.{◌≡◌, ℕ, ◌<◌, ◌≤◌, Bool, true, false, ◌⊎◌, List, map, All}
use Rattle.stp_cond.specs.Atoms.{interfere}
use Rattle.stp_window.specs.Windows.{Point, OpenSpan, WindowBox, Meet}
use Rattle.stp_window.specs.States.{certain_before, state_at, at_last}

-- two steps of one action never run at one moment
abbrev pub StayApart : OpenSpan → OpenSpan → Type 0
StayApart s o = s.end.step < o.end.step → s.key ≡ o.key → (s.end.high < o.from) ⊎ (o.end.high < s.from)

-- two points of different steps whose windows have a common moment do not interfere
abbrev pub StayCalm : Point → Point → Type 0
StayCalm p q = p.step < q.step → Meet p q → interfere p.event q.event ≡ false

-- a point finds what it needs in what is certain before its window
abbrev pub IsFedAlways : WindowBox → Point → Type 0
IsFedAlways b p = p.event.cond (certain_before b p.low) ≡ true

-- at a moment that is surely or maybe within a span, what has to hold inside holds, whichever points have come
abbrev pub IsKeptAt : WindowBox → OpenSpan → ℕ → Type 0
IsKeptAt b s t = s.from ≤ t → t < s.end.high → (chosen : Point → Bool) → chosen s.end ≡ false → s.over (state_at b t chosen) ≡ true

-- the moments at which windows begin, the starts of steps among them
abbrev pub lows : WindowBox → List ℕ
lows b = map (λ p. p.low) b.points

pub record IsSound (b : WindowBox) : Type 0 where
  pub apart : All (λ s. All (StayApart s) b.spans) b.spans
  pub calm : All (λ p. All (StayCalm p) b.points) b.points
  pub fed : All (IsFedAlways b) b.points
  pub kept : All (λ s. All (IsKeptAt b s) (lows b)) b.spans
  pub reached : b.goal (at_last b) ≡ true
