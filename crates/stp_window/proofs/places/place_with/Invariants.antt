-- None of the windows so far clashes with this one.
use Rattle.std.proofs.Common.{take, All}
use Rattle.stp_window.specs.Sweep.{Clash}
use Rattle.stp_window.specs.Views.{point_of}
use Rattle.stp_window.proofs.places.place_with.Given as goal

abbrev pub invariant-loop-place : goal.invariant-loop-place
invariant-loop-place l = All (λ w. Clash (point_of l.one) (point_of w) → ⊥) (take l.place l.windows)
