-- The test of a span at a moment by splitting: each unsettled end comes, or does not.
use Rattle.std.specs.Prelude.{◌≡◌, ℕ, ◌==◌, nat_lt, nat_le, Bool, true, not, ◌&&◌, ◌||◌, List, [], ◌∷◌, filter}
use Rattle.stp_cond.specs.Atoms.{changed_by}
use Rattle.stp_window.specs.Windows.{Point, OpenSpan, WindowBox, IsProper, is_unsettled}
use Rattle.stp_window.specs.States.{certain}
use Rattle.stp_strength.specs.Failures.{is_kept, all_calm}

-- what events make of a state, one after another
abbrev pub applied : List Point → (ℕ → Bool) → ℕ → Bool
applied [] state = state
applied (p ∷ ps) state = applied ps (changed_by p.event state)

-- whether a test passes whichever of these come
abbrev pub passes_all : ((ℕ → Bool) → Bool) → List Point → (ℕ → Bool) → Bool
passes_all over [] state = over state
passes_all over (p ∷ ps) state = passes_all over ps state && passes_all over ps (changed_by p.event state)

-- the unsettled points of other steps
abbrev pub other_points : WindowBox → OpenSpan → ℕ → List Point
other_points b s t = filter (λ p. is_unsettled t p && not (p.step == s.end.step)) b.points

abbrev pub is_kept_by_splitting : WindowBox → OpenSpan → ℕ → Bool
is_kept_by_splitting b s t = not (nat_le s.from t && nat_lt t s.end.high) || passes_all s.over (other_points b s t) (certain b t)

-- splitting judges as the plain test does
abbrev pub SplittingAgrees : Type 0
SplittingAgrees = (b : WindowBox) → IsProper b → all_calm b ≡ true → (s : OpenSpan) (t : ℕ) → is_kept_by_splitting b s t ≡ is_kept b s t
