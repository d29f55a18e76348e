use Rattle.std.proofs.Common.{◌==◌, sym, ◌∙◌}
use Rattle.stp_check.proofs.Inside.{due_here, not_due_here}
use Rattle.stp_check.proofs.touching.is_due.Goals as goal

pub returns-then-not-leaves : goal.returns-then-not-leaves
returns-then-not-leaves c =
    due_here c.args.cond.now c.args.begins.now c.loop-window.window-index c.window-item.result (c.args.start == c.args.time) c.loop-window-test.true c.window-item.is (sym c.leaves.ensures ∙ c.if-not-leaves.true)

pub loop-window-preserved : goal.loop-window-preserved
loop-window-preserved c =
    not_due_here c.args.cond.now c.args.begins.now c.loop-window.window-index c.window-item.result c.loop-window-test.true c.window-item.is (sym c.leaves.ensures ∙ c.if-not-leaves.false) c.loop-window.invariant
