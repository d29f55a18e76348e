-- Boxes of owners in an arena are well made, and their windows proper.
use Rattle.stp_happen.specs.declared.boxes.BoxRun.{BoxRun}
use Rattle.stp_happen.specs.declared.owners.OwnedBox.{OwnedBox}
use Rattle.stp_happen.specs.BoxViews.{plain_box}
use Rattle.stp_happen.specs.OwnedViews.{plain_owned}
use Rattle.stp_window.specs.Windows.{WindowBox, IsProper}
use Rattle.stp_window.specs.OwnerWindows.{AreWellMade, windows_of}

-- the windows of a box of owners in an arena
abbrev pub windows_in : OwnedBox → WindowBox
windows_in boxed = windows_of (plain_owned boxed)

-- the windows of a box in an arena
abbrev pub windows_in_run : BoxRun → WindowBox
windows_in_run boxed = windows_of (plain_box boxed)

abbrev pub BoxesAreWellMade : Type 0
BoxesAreWellMade = (boxed : OwnedBox) → AreWellMade (plain_owned boxed).owners

abbrev pub BoxesHaveProperWindows : Type 0
BoxesHaveProperWindows = (boxed : OwnedBox) → IsProper (windows_in boxed)

abbrev pub RunsAreWellMade : Type 0
RunsAreWellMade = (boxed : BoxRun) → AreWellMade (plain_box boxed).owners
