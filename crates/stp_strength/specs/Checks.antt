-- The plain check of a box decides whether it is strong.
use Rattle.std.specs.Prelude.{◌≡◌, ℕ, true, false, ◌↔◌, List, ◌⊎◌}
use Rattle.stp_happen.specs.Boxes.{PlainBox, IsStrong}
use Rattle.stp_happen.specs.LeastFailure.{IsFailure, IsLeastFailure}
use Rattle.stp_window.specs.Windows.{WindowBox, IsProper}
use Rattle.stp_strength.specs.Facts.{IsSound}
use Rattle.stp_window.specs.OwnerWindows.{AreWellMade, windows_of}
use Rattle.stp_strength.specs.Failures.{Gap, is_sound}

-- the tests pass exactly where the static facts hold
abbrev pub TestsTellFacts : Type 0
TestsTellFacts = (b : WindowBox) → IsProper b → is_sound b ≡ true ↔ IsSound b

-- where the tests do not pass, they show a fact that is missing
abbrev pub TestsShowGaps : Type 0
TestsShowGaps = (b : WindowBox) → IsProper b → is_sound b ≡ false → Gap b

-- the plain check passes exactly where the box is strong
abbrev pub CheckDecides : Type 0
CheckDecides = (box : PlainBox) → AreWellMade box.owners → is_sound (windows_of box) ≡ true ↔ IsStrong box

-- a box is strong, or there are durations on its own grid at which it fails
abbrev pub StrongOrFails : Type 0
StrongOrFails = (box : PlainBox) → AreWellMade box.owners → IsStrong box ⊎ ((durations : List ℕ) × IsFailure box durations)

-- and never both
abbrev pub FailuresMeanWeakness : Type 0
FailuresMeanWeakness = (box : PlainBox) (durations : List ℕ) → IsFailure box durations → IsStrong box → ⊥

-- a box is strong, or it has a least failure
abbrev pub StrongOrLeastFailure : Type 0
StrongOrLeastFailure = (box : PlainBox) → AreWellMade box.owners → IsStrong box ⊎ ((durations : List ℕ) × IsLeastFailure box durations)

-- there is a least failure exactly where the box is not strong
abbrev pub LeastFailureExactlyWhereWeak : Type 0
LeastFailureExactlyWhereWeak = (box : PlainBox) → AreWellMade box.owners → ((durations : List ℕ) × IsLeastFailure box durations) ↔ (IsStrong box → ⊥)
