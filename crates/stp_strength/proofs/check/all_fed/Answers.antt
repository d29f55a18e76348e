use Rattle.std.proofs.Common.{[], arith, sym, ◌∙◌}
use Rattle.stp_cond.specs.declared.cond.Cond.TheVariants.{True}
use Rattle.stp_strength.specs.Failures.{is_fed}
use Rattle.stp_window.specs.Views.{point_of, box_of}
use Rattle.stp_strength.proofs.Loops.{stops, goes_on}
use Rattle.stp_strength.proofs.check.all_fed.Goals as goal

pub returns-then-not-branch : goal.returns-then-not-branch
returns-then-not-branch c =
    sym (stops point_of (is_fed (box_of c.args.windows.now [] c.args.initial.now True)) c.args.windows.now c.loop-window.window-index c.window-item.result (omega arith) c.window-item.is
    (sym c.in_ok-is_fed.ensures ∙ c.if-not-branch.true) c.loop-window.invariant)

pub loop-window-preserved : goal.loop-window-preserved
loop-window-preserved c =
    goes_on point_of (is_fed (box_of c.args.windows.now [] c.args.initial.now True)) c.args.windows.now c.loop-window.window-index c.window-item.result (omega arith) c.window-item.is
    (sym c.in_ok-is_fed.ensures ∙ c.if-not-branch.false) c.loop-window.invariant
