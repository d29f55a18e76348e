use Rattle.std.proofs.Common.{[], ◌∷◌, sym, ap, ◌∙◌, arith}
use Rattle.stp_frac.specs.Fractions.{up_to}
use Rattle.stp_exec.specs.Held.{plain_held}
use Rattle.stp_exec.specs.Timed.{held_denominators}
use Rattle.stp_exec.proofs.Multiples.{one_joined, none_joined, last_joined, lcm_one_right, within_from}
use Rattle.stp_exec.proofs.TimedSteps.{held_positive}
use Rattle.stp_exec.proofs.grid.join_step.Goals as goal

pub returns-in_default-clause-value : goal.returns-in_default-clause-value
returns-in_default-clause-value c =
    none_joined c.args.grid c.args.step.now.start.bottom (held_denominators (plain_held c.args.step.now.held)) (omega (arith, c.requires.low)) (omega (arith, c.args.step.now.start.low)) (held_positive c.args.step.now.held)
    (sym c.in_default.is ∙ c.join.ensures.value)

pub returns-in-Instant-clause-value : goal.returns-in-Instant-clause-value
returns-in-Instant-clause-value c =
    rw c.in-Instant.is
    (within_from 999999999 c.in-Some.grid c.in-Some.ensures.high
    ∙ ap (up_to 999999999) (sym (lcm_one_right c.in-Some.grid (omega (arith, c.in-Some.ensures.low))))
    ∙ one_joined c.args.grid c.args.step.now.start.bottom c.in-Some.grid [] (omega (arith, c.requires.low)) (omega (arith, c.args.step.now.start.low)) tt (sym c.in-Some.is ∙ c.join.ensures.value))

pub returns-in-Fixed-clause-value : goal.returns-in-Fixed-clause-value
returns-in-Fixed-clause-value c =
    rw c.in-Fixed.is
    (c.join-in-Fixed.ensures.value
    ∙ last_joined c.in-Some.grid c.in-Fixed.duration.bottom (omega (arith, c.in-Fixed.duration.low))
    ∙ one_joined c.args.grid c.args.step.now.start.bottom c.in-Some.grid (c.in-Fixed.duration.bottom ∷ []) (omega (arith, c.requires.low)) (omega (arith, c.args.step.now.start.low)) (omega (arith, c.in-Fixed.duration.low), tt) (sym c.in-Some.is ∙ c.join.ensures.value))

pub returns-in_default-join-clause-value : goal.returns-in_default-join-clause-value
returns-in_default-join-clause-value c =
    rw c.in-Open.is
    (none_joined c.in-Some.grid c.in-Open.low.bottom (c.in-Open.high.bottom ∷ []) (omega (arith, c.in-Some.ensures.low)) (omega (arith, c.in-Open.low.low)) (omega (arith, c.in-Open.high.low), tt) (sym c.in_default-join.is ∙ c.join-in-Open.ensures.value)
    ∙ one_joined c.args.grid c.args.step.now.start.bottom c.in-Some.grid (c.in-Open.low.bottom ∷ c.in-Open.high.bottom ∷ []) (omega (arith, c.requires.low)) (omega (arith, c.args.step.now.start.low)) (omega (arith, c.in-Open.low.low), (omega (arith, c.in-Open.high.low), tt)) (sym c.in-Some.is ∙ c.join.ensures.value))

pub returns-in-Some-join-clause-value : goal.returns-in-Some-join-clause-value
returns-in-Some-join-clause-value c =
    rw c.in-Open.is
    (c.join-in-Open-2.ensures.value
    ∙ last_joined c.in-Some-join.grid c.in-Open.high.bottom (omega (arith, c.in-Open.high.low))
    ∙ one_joined c.in-Some.grid c.in-Open.low.bottom c.in-Some-join.grid (c.in-Open.high.bottom ∷ []) (omega (arith, c.in-Some.ensures.low)) (omega (arith, c.in-Open.low.low)) (omega (arith, c.in-Open.high.low), tt) (sym c.in-Some-join.is ∙ c.join-in-Open.ensures.value)
    ∙ one_joined c.args.grid c.args.step.now.start.bottom c.in-Some.grid (c.in-Open.low.bottom ∷ c.in-Open.high.bottom ∷ []) (omega (arith, c.requires.low)) (omega (arith, c.args.step.now.start.low)) (omega (arith, c.in-Open.low.low), (omega (arith, c.in-Open.high.low), tt)) (sym c.in-Some.is ∙ c.join.ensures.value))
