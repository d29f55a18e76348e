use Rattle.std.proofs.Common.{◌≡◌, map, sym, ap, subst, ◌∙◌, arith, true}
use Rattle.std.specs.List.{All}
use Rattle.std.proofs.lemmas.List.{take_all}
use Rattle.stp_exec.specs.declared.timed_step.TimedStep.{TimedStep}
use Rattle.stp_exec.specs.Timed.{plain_timed, is_lawful_timed}
use Rattle.stp_exec.proofs.Limits.{timed_of, times_are, times_are_lawful}
use Rattle.stp_exec.proofs.timing.timed.Goals as goal

pub returns-clause-times : goal.returns-clause-times
returns-clause-times c = ap (map plain_timed) (c.loop-step.invariant ∙ ap timed_of (take_all c.loop-step.step-index c.args.placed.now (omega arith))) ∙ times_are c.args.placed.now

pub returns-clause-lawful : goal.returns-clause-lawful
returns-clause-lawful c =
    let is : c.loop-step.times.items ≡ timed_of c.args.placed.now = c.loop-step.invariant ∙ ap timed_of (take_all c.loop-step.step-index c.args.placed.now (omega arith)) in
    subst (All (λ (step : TimedStep). is_lawful_timed (plain_timed step) ≡ true)) (sym is) (times_are_lawful c.args.placed.now)
