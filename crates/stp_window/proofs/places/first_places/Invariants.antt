-- None of the windows so far clashes with any.
use Rattle.std.proofs.Common.{take, All}
use Rattle.stp_window.specs.Sweep.{ClashesWithNone}
use Rattle.stp_window.proofs.places.first_places.Given as goal

abbrev pub invariant-loop-place : goal.invariant-loop-place
invariant-loop-place l = All (ClashesWithNone l.windows) (take l.place l.windows)
