-- The durations at which a box fails where a static fact is missing.
use Rattle.std.specs.Prelude.{ℕ, List}
use Rattle.stp_happen.specs.Boxes.{PlainBox}
use Rattle.stp_happen.specs.LeastFailure.{IsFailure}
use Rattle.stp_window.specs.OwnerWindows.{AreWellMade, windows_of}
use Rattle.stp_strength.specs.Failures.{Gap, failing}
use Rattle.stp_strength.specs.Vectors.{vector_of}

-- durations at which the box fails there
abbrev pub failing_durations : (box : PlainBox) → Gap (windows_of box) → List ℕ
failing_durations box gap = vector_of box (failing (windows_of box) gap)

-- where a fact is missing, the box fails on its own grid, at these durations
abbrev pub GapsFail : Type 0
GapsFail = (box : PlainBox) → AreWellMade box.owners → (gap : Gap (windows_of box)) → IsFailure box (failing_durations box gap)
