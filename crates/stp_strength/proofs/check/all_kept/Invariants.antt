use Rattle.std.proofs.Common.{◌≡◌, [], drop, map}
use Rattle.std.specs.List.{list_all}
use Rattle.stp_cond.specs.declared.cond.Cond.TheVariants.{True}
use Rattle.stp_strength.specs.Failures.{is_kept}
use Rattle.stp_window.specs.Views.{spans_of, box_of}
use Rattle.stp_strength.proofs.check.all_kept.Given as goal

abbrev pub invariant-loop-span : goal.invariant-loop-span
invariant-loop-span l =
    list_all (λ s. list_all (is_kept (box_of l.windows [] l.fn.initial True) s) (map (λ w. w.low) l.windows)) (spans_of (drop l.span-index l.spans))
    ≡ list_all (λ s. list_all (is_kept (box_of l.windows [] l.fn.initial True) s) (map (λ w. w.low) l.windows)) (spans_of l.spans)
