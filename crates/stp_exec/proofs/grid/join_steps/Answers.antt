use Rattle.std.proofs.Common.{sym, ap, ◌∙◌, arith, refl}
use Rattle.stp_frac.specs.Fractions.{up_to}
use Rattle.stp_exec.specs.Timed.{plain_timed, denominators}
use Rattle.stp_exec.proofs.Multiples.{within_from}
use Rattle.stp_exec.proofs.Joining.{joined_more, joined_beyond, joined_all}
use Rattle.stp_exec.proofs.TimedSteps.{step_positive}
use Rattle.stp_exec.proofs.grid.join_steps.Goals as goal

pub loop-step-init : goal.loop-step-init
loop-step-init c = record { joined = refl; low = c.requires.low; high = c.requires.high }

pub returns-in_default-clause-value : goal.returns-in_default-clause-value
returns-in_default-clause-value c =
    joined_beyond plain_timed denominators step_positive c.args.grid c.loop-step.joint c.loop-step.step-index c.step-item.result c.args.steps.now (omega (arith, c.loop-step.invariant.low)) (omega arith) (sym c.step-item.is) (sym c.in_default.is ∙ c.join_step.ensures.value) c.loop-step.invariant.joined

pub loop-step-preserved : goal.loop-step-preserved
loop-step-preserved c = record {
  joined = joined_more plain_timed denominators step_positive c.args.grid c.loop-step.joint c.in-Some.next c.loop-step.step-index c.step-item.result c.args.steps.now (omega (arith, c.loop-step.invariant.low)) (omega arith) (sym c.step-item.is) (sym c.in-Some.is ∙ c.join_step.ensures.value) c.loop-step.invariant.joined;
  low = c.in-Some.ensures.low;
  high = c.in-Some.ensures.high;
}

pub returns-clause-value : goal.returns-clause-value
returns-clause-value c =
    within_from 999999999 c.loop-step.joint c.loop-step.invariant.high
    ∙ ap (up_to 999999999) (joined_all plain_timed denominators step_positive c.args.grid c.loop-step.joint c.loop-step.step-index c.args.steps.now (omega (arith, c.loop-step.invariant.low)) (omega arith) c.loop-step.invariant.joined)
