-- Windows whose bounds are moved without a change of their order.
use Rattle.std.specs.Prelude.{ℕ, List, ◌++◌, map}
use Rattle.stp_happen.specs.Moves.{KeepsOrder}
use Rattle.stp_window.specs.Windows.{Point, OpenSpan, WindowBox, IsProper}
use Rattle.stp_strength.specs.Facts.{IsSound}

abbrev pub moved_point : (ℕ → ℕ) → Point → Point
moved_point f p = record p { low = f p.low; high = f p.high }

abbrev pub moved_open_span : (ℕ → ℕ) → OpenSpan → OpenSpan
moved_open_span f s = record s { from = f s.from; end = moved_point f s.end }

-- the same windows, each bound t moved to f t
abbrev pub moved_windows : (ℕ → ℕ) → WindowBox → WindowBox
moved_windows f b = record b { points = map (moved_point f) b.points; spans = map (moved_open_span f) b.spans }

-- the starts, lows and highs of windows and spans
abbrev pub window_bounds : WindowBox → List ℕ
window_bounds b = map (λ p. p.low) b.points ++ (map (λ p. p.high) b.points ++ (map (λ s. s.from) b.spans ++ map (λ s. s.end.high) b.spans))

-- static facts are kept where bounds are moved in order
abbrev pub MovedWindowsAreSound : Type 0
MovedWindowsAreSound = (f : ℕ → ℕ) (b : WindowBox) → KeepsOrder f (window_bounds b) → IsProper b → IsSound b → IsSound (moved_windows f b)
