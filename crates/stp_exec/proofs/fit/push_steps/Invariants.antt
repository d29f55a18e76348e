-- The bounds so far and those of the steps that are left are those of all.
use Rattle.stp_exec.specs.Timed.{plain_timed}
use Rattle.stp_exec.specs.Fitting.{step_bounds}
use Rattle.stp_exec.proofs.Fits.{AreBounds}
use Rattle.stp_exec.proofs.fit.push_steps.Given as goal

abbrev pub invariant-loop-step : goal.invariant-loop-step
invariant-loop-step l = AreBounds plain_timed step_bounds l.fn.bounds l.bounds l.step-index l.steps
