use Rattle.std.proofs.Common.{not, sym, ap, subst}
use Rattle.stp_frac.specs.Fractions.{value_of, is_below_zero}
use Rattle.stp_frac.proofs.Divisors.{both_true}
use Rattle.stp_task.specs.Durations.{plain_duration}
use Rattle.stp_plan.specs.Views.{plain_bracket}
use Rattle.stp_exec.specs.Held.{plain_held, is_lawful_held}
use Rattle.stp_exec.proofs.Fitting.{AnswerFits, held_fits}
use Rattle.stp_exec.proofs.placing.place_step.Goals as goal

pub invariant_of-result : goal.invariant_of-result
invariant_of-result c =
    let duration = plain_duration c.in-Ok.chosen.duration in
    record {
      lawful = both_true (not (is_below_zero (value_of c.args.step.now.at).top)) (is_lawful_held (plain_held c.in-Ok-hold.held)) (ap not c.requires) (c.in-Ok-hold.ensures.lawful c.in-Ok.chosen.lawful);
      fitting = subst (AnswerFits duration) (sym c.in-Ok-hold.ensures.value) (held_fits duration (plain_bracket c.args.step.now.bracket));
    }
