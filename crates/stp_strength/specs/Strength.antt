-- When a box is strong.
use Rattle.std.specs.Prelude.{ℕ, ◌↔◌, List}
use Rattle.stp_happen.specs.Plain.{Executes}
use Rattle.stp_happen.specs.Boxes.{PlainBox, run_under, IsVector, IsStrong}
use Rattle.stp_strength.specs.Facts.{IsSound}
use Rattle.stp_window.specs.OwnerWindows.{AreWellMade, windows_of}

-- a strong box is one that has the static facts
abbrev pub StrongExactlyWhereSound : Type 0
StrongExactlyWhereSound = (box : PlainBox) → AreWellMade box.owners → IsStrong box ↔ IsSound (windows_of box)

-- whatever durations are chosen on the box's own grid, the run executes
abbrev pub IsStrongOnItsGrid : PlainBox → Type 0
IsStrongOnItsGrid box = (durations : List ℕ) → IsVector box.owners durations → Executes (run_under box durations)

-- strong on every grid is strong on the box's own
abbrev pub OneGridDecides : Type 0
OneGridDecides = (box : PlainBox) → AreWellMade box.owners → IsStrong box ↔ IsStrongOnItsGrid box
