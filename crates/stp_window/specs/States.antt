-- States of a box that no choice of moments is needed for.
use Rattle.std.specs.Prelude.{ℕ, nat_lt, nat_le, Bool, true, ◌&&◌, ◌||◌, map, filter}
use Rattle.stp_happen.specs.Plain.{state_after}
use Rattle.stp_window.specs.Windows.{Point, WindowBox, entry_at}

-- what these points leave, a window that ends later counting over one that ends earlier
abbrev pub left_by : WindowBox → (Point → Bool) → ℕ → Bool
left_by b came = state_after b.initial (map (entry_at (λ p. p.high)) (filter came b.points))

-- what is certain at a moment: what the points leave whose windows have ended by then
abbrev pub certain : WindowBox → ℕ → ℕ → Bool
certain b t = left_by b (λ p. nat_le p.high t)

-- what is certain before a moment
abbrev pub certain_before : WindowBox → ℕ → ℕ → Bool
certain_before b t = left_by b (λ p. nat_lt p.high t)

-- the points whose windows have ended by a moment, and of those whose windows have begun the chosen ones
abbrev pub came_by : ℕ → (Point → Bool) → Point → Bool
came_by t chosen p = nat_le p.high t || (chosen p && nat_le p.low t)

-- the state at a moment where of the points whose windows have begun and not ended the chosen ones have come
abbrev pub state_at : WindowBox → ℕ → (Point → Bool) → ℕ → Bool
state_at b t chosen = left_by b (came_by t chosen)

-- the state when all points have come
abbrev pub at_last : WindowBox → ℕ → Bool
at_last b = left_by b (λ p. true)
