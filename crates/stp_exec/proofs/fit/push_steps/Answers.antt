use Rattle.std.proofs.Common.{sym, arith}
use Rattle.stp_exec.specs.Timed.{plain_timed}
use Rattle.stp_exec.specs.Fitting.{step_bounds}
use Rattle.stp_exec.proofs.Fits.{bounds_more, bounds_all}
use Rattle.stp_exec.proofs.fit.push_steps.Goals as goal

pub loop-step-preserved : goal.loop-step-preserved
loop-step-preserved c =
    bounds_more plain_timed step_bounds c.args.bounds.now c.loop-step.bounds c.push_bounds.new.bounds c.step-item.result c.args.steps.now c.loop-step.step-index (omega arith) (sym c.step-item.is) c.in_ok-push_bounds.ensures c.loop-step.invariant

pub returns : goal.returns
returns c = bounds_all plain_timed step_bounds c.args.bounds.now c.loop-step.bounds c.args.steps.now c.loop-step.step-index (omega arith) c.loop-step.invariant
