use Rattle.std.proofs.Common.{[], map, arith, sym, ◌∙◌}
use Rattle.std.specs.List.{list_all}
use Rattle.stp_cond.specs.declared.cond.Cond.TheVariants.{True}
use Rattle.stp_strength.specs.Failures.{is_kept}
use Rattle.stp_window.specs.Views.{span_of, box_of}
use Rattle.stp_strength.proofs.Loops.{stops, goes_on}
use Rattle.stp_strength.proofs.check.all_kept.Goals as goal

pub returns-then-not-branch : goal.returns-then-not-branch
returns-then-not-branch c =
    sym (stops span_of (λ s. list_all (is_kept (box_of c.args.windows.now [] c.args.initial.now True) s) (map (λ w. w.low) c.args.windows.now)) c.args.spans.now c.loop-span.span-index c.span-item.result (omega arith) c.span-item.is
    (sym c.in_ok-is_kept_throughout.ensures ∙ c.if-not-branch.true) c.loop-span.invariant)

pub loop-span-preserved : goal.loop-span-preserved
loop-span-preserved c =
    goes_on span_of (λ s. list_all (is_kept (box_of c.args.windows.now [] c.args.initial.now True) s) (map (λ w. w.low) c.args.windows.now)) c.args.spans.now c.loop-span.span-index c.span-item.result (omega arith) c.span-item.is
    (sym c.in_ok-is_kept_throughout.ensures ∙ c.if-not-branch.false) c.loop-span.invariant
