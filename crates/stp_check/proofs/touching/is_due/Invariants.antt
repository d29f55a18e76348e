-- What is left of the windows touches the formula where one of all does.
use Rattle.std.proofs.Common.{◌≡◌, drop}
use Rattle.std.specs.List.{list_any}
use Rattle.stp_window.specs.Views.{point_of}
use Rattle.stp_check.specs.Ends.{touches}
use Rattle.stp_check.proofs.touching.is_due.Given as goal

abbrev pub invariant-loop-window : goal.invariant-loop-window
invariant-loop-window l = list_any (λ w. touches l.cond (point_of w)) (drop l.window-index l.begins) ≡ list_any (λ w. touches l.cond (point_of w)) l.begins
