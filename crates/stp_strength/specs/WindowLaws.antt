-- When a box is strong, by its windows.
use Rattle.std.specs.Prelude.{ℕ, ◌↔◌, Contains}
use Rattle.stp_happen.specs.Plain.{Executes}
use Rattle.stp_window.specs.Windows.{Point, OpenSpan, WindowBox, run_when, IsChoice, IsProper}
use Rattle.stp_strength.specs.Facts.{IsKeptAt, IsSound}

-- whatever moments are chosen, the run executes
abbrev pub ExecutesAlways : WindowBox → Type 0
ExecutesAlways b = (moment : Point → ℕ) → IsChoice b moment → Executes (run_when b moment)

abbrev pub ExecutesAlwaysExactlyWhereSound : Type 0
ExecutesAlwaysExactlyWhereSound = (b : WindowBox) → IsProper b → ExecutesAlways b ↔ IsSound b

-- what holds inside at the moments at which windows begin holds there at every moment, so that it may be tested at more
abbrev pub KeptAtEveryMoment : Type 0
KeptAtEveryMoment = (b : WindowBox) → IsProper b → IsSound b → (s : OpenSpan) → Contains b.spans s → (t : ℕ) → IsKeptAt b s t
