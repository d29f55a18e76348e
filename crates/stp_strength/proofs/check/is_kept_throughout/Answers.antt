use Rattle.std.proofs.Common.{[], arith, sym, ◌∙◌}
use Rattle.stp_cond.specs.declared.cond.Cond.TheVariants.{True}
use Rattle.stp_window.specs.declared.windows.Window.{Window}
use Rattle.stp_strength.specs.Failures.{is_kept}
use Rattle.stp_window.specs.Views.{span_of, box_of}
use Rattle.stp_strength.proofs.Loops.{stops, goes_on}
use Rattle.stp_strength.proofs.check.is_kept_throughout.Goals as goal

pub returns-then-not-branch : goal.returns-then-not-branch
returns-then-not-branch c =
    sym (stops (λ (w : Window). w.low) (is_kept (box_of c.args.windows.now [] c.args.initial.now True) (span_of c.args.span.now)) c.args.windows.now c.loop-window.window-index c.window-item.result (omega arith) c.window-item.is
    (sym c.in_ok-is_kept.ensures ∙ c.if-not-branch.true) c.loop-window.invariant)

pub loop-window-preserved : goal.loop-window-preserved
loop-window-preserved c =
    goes_on (λ (w : Window). w.low) (is_kept (box_of c.args.windows.now [] c.args.initial.now True) (span_of c.args.span.now)) c.args.windows.now c.loop-window.window-index c.window-item.result (omega arith) c.window-item.is
    (sym c.in_ok-is_kept.ensures ∙ c.if-not-branch.false) c.loop-window.invariant
