-- Choices of moments at which a box fails where one of its static facts is missing.
use Rattle.std.specs.Prelude.{ℕ, Bool, if◌then◌else◌, max, min}
use Rattle.stp_window.specs.Windows.{Point}

-- each point as late as it can come
abbrev pub latest : Point → ℕ
latest p = p.high

-- the chosen points as soon as they can come, the others as late
abbrev pub corner : (Point → Bool) → Point → ℕ
corner chosen p = if chosen p then p.low else p.high

-- each point as near to a moment as it can come
abbrev pub nearest : ℕ → Point → ℕ
nearest t p = max p.low (min p.high t)
