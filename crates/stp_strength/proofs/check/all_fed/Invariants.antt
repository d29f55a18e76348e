use Rattle.std.proofs.Common.{◌≡◌, [], drop}
use Rattle.std.specs.List.{list_all}
use Rattle.stp_cond.specs.declared.cond.Cond.TheVariants.{True}
use Rattle.stp_strength.specs.Failures.{is_fed}
use Rattle.stp_window.specs.Views.{points_of, box_of}
use Rattle.stp_strength.proofs.check.all_fed.Given as goal

abbrev pub invariant-loop-window : goal.invariant-loop-window
invariant-loop-window l = list_all (is_fed (box_of l.windows [] l.fn.initial True)) (points_of (drop l.window-index l.windows)) ≡ list_all (is_fed (box_of l.windows [] l.fn.initial True)) (points_of l.windows)
