use Rattle.std.proofs.Common.{◌≡◌, [], drop, map}
use Rattle.std.specs.List.{list_all}
use Rattle.stp_cond.specs.declared.cond.Cond.TheVariants.{True}
use Rattle.stp_strength.specs.Failures.{is_kept}
use Rattle.stp_window.specs.Views.{span_of, box_of}
use Rattle.stp_strength.proofs.check.is_kept_throughout.Given as goal

abbrev pub invariant-loop-window : goal.invariant-loop-window
invariant-loop-window l =
    list_all (is_kept (box_of l.windows [] l.fn.initial True) (span_of l.span)) (map (λ w. w.low) (drop l.window-index l.windows)) ≡ list_all (is_kept (box_of l.windows [] l.fn.initial True) (span_of l.span)) (map (λ w. w.low) l.windows)
