-- Moments at which a formula has to be judged, and ends that come so that it does not hold.
use Rattle.std.specs.Prelude.{◌≡◌, ℕ, ◌<◌, ◌≤◌, ◌==◌, Bool, true, false, not, ◌⊎◌, List, ◌∷◌, map, filter, All, Contains}
use Rattle.std.specs.List.{list_any}
use Rattle.stp_cond.specs.declared.cond.Cond.{Cond}
use Rattle.stp_cond.specs.Atoms.{has}
use Rattle.stp_cond.specs.Truth.{truth}
use Rattle.stp_window.specs.Certain.{sets}
use Rattle.stp_window.specs.States.{state_at}
use Rattle.stp_window.specs.Views.{span_of}
use Rattle.stp_window.specs.Windows.{Point, OpenSpan, WindowBox}
use Rattle.stp_split.specs.Cases.{atoms_read}
use Rattle.stp_split.specs.Judged.{FailsAt}
use Rattle.stp_check.specs.Late.{IsViewAt}
use Rattle.stp_check.specs.declared.over_all.OverAll.{OverAll}

-- whether an end writes an atom of a formula
abbrev pub touches : Cond → Point → Bool
touches cond p = list_any (sets p) (atoms_read cond)

-- the points whose windows begin at a moment
abbrev pub beginning : ℕ → List Point → List Point
beginning t points = filter (λ p. p.low == t) points

-- whether a formula has to be judged at a moment: its step starts, or an end that writes one of its atoms may first come
abbrev pub IsMoment : WindowBox → OpenSpan → Cond → ℕ → Type 0
IsMoment b s cond t = (t ≡ s.from) ⊎ ((p : Point) × Contains b.points p × (touches cond p ≡ true) × (p.low ≡ t))

-- at a moment that is surely or maybe within a span the formula holds, whichever points have come
abbrev pub IsPartKept : WindowBox → OpenSpan → Cond → ℕ → Type 0
IsPartKept b s cond t = s.from ≤ t → t < s.end.high → (came : Point → Bool) → came s.end ≡ false → truth (state_at b t came) cond ≡ true

-- the formula holds then, if it has to be judged then
abbrev pub IsJudged : WindowBox → OpenSpan → ℕ → Cond → Type 0
IsJudged b s t cond = IsMoment b s cond t → IsPartKept b s cond t

-- each member of what has to hold inside a step does
abbrev pub AreJudged : WindowBox → ℕ → OverAll → Type 0
AreJudged b t h = All (IsJudged b (span_of h.lasting) t) h.members

-- a row and the points that are unsettled and that begin at a moment
pub record IsSeenAt (b : WindowBox) (t : ℕ) (row : List Bool) (unsettled begins : List Point) : Type 0 where
  pub view : IsViewAt b t row unsettled
  pub are_beginning : begins ≡ beginning t b.points

-- ---- late steps

-- the steps of points
abbrev pub steps_in : List Point → List ℕ
steps_in ps = map (λ p. p.step) ps

-- a step, and of the steps of these ends all but some
abbrev pub late_with : ℕ → List Point → List ℕ → List ℕ
late_with number ends steps = number ∷ filter (λ n. not (has steps n)) (steps_in ends)

-- a step, and those of the ends that do not come where a formula does not hold
abbrev pub IsLateWithout : Cond → ℕ → List Point → (ℕ → Bool) → List ℕ → Type 0
IsLateWithout cond number ends state late = (steps : List ℕ) × FailsAt cond true ends state steps × (late ≡ late_with number ends steps)
