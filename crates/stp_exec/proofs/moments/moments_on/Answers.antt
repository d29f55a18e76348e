use Rattle.std.proofs.Common.{◌≤◌, ◌<◌, ◌*◌, ℕ, not, sym, ap, ◌∙◌, subst, arith}
use Rattle.std.specs.List.{list_all}
use Rattle.stp_frac.specs.Divisors.{divides}
use Rattle.stp_frac.specs.Fractions.{value_of, is_below_zero}
use Rattle.stp_frac.proofs.Divisors.{right_true}
use Rattle.stp_exec.specs.Held.{is_lawful_held, plain_held}
use Rattle.stp_exec.specs.Timed.{plain_timed, held_denominators, ends_of}
use Rattle.stp_exec.proofs.Bounds.{ends_ordered, ends_later, in_time}
use Rattle.stp_exec.proofs.moments.moments_on.Goals as goal

pub returns-clause-order : goal.returns-clause-order
returns-clause-order c =
    let held = plain_held c.args.step.now.held in
    subst (λ (e : ℕ × ℕ). (c.count-start.result ≤ e.0) × (e.0 ≤ e.1)) (sym c.ends-low.ensures)
    (ends_ordered c.args.grid c.count-start.result held (omega (arith, c.requires.low))
    (right_true (not (is_below_zero (value_of c.args.step.now.start).top)) (is_lawful_held held) c.requires.lawful)
    (right_true (divides c.args.step.now.start.bottom c.args.grid) (list_all (λ d. divides d c.args.grid) (held_denominators held)) c.requires.lies))

pub returns-clause-lasts : goal.returns-clause-lasts
returns-clause-lasts c = λ lasts.
    let held = plain_held c.args.step.now.held in
    subst (λ (e : ℕ × ℕ). c.count-start.result < e.0) (sym c.ends-low.ensures)
    (ends_later c.args.grid c.count-start.result held (omega (arith, c.requires.low))
    (right_true (not (is_below_zero (value_of c.args.step.now.start).top)) (is_lawful_held held) c.requires.lawful)
    (right_true (divides c.args.step.now.start.bottom c.args.grid) (list_all (λ d. divides d c.args.grid) (held_denominators held)) c.requires.lies)
    lasts)

pub returns-clause-bound : goal.returns-clause-bound
returns-clause-bound c = λ early.
    subst (λ (e : ℕ × ℕ). e.1 ≤ 999999999 * c.args.grid)
    (sym (c.ends-low.ensures ∙ ap (λ s. ends_of c.args.grid s (plain_held c.args.step.now.held)) c.count-start.ensures.value))
    (in_time c.args.grid (plain_timed c.args.step.now) (omega (arith, c.requires.low)) c.requires.lies early)
