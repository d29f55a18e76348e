use Rattle.std.proofs.Common.{◌∙◌, sym, ap}
use Rattle.stp_frac.specs.Divisors.{gcd}
use Rattle.stp_frac.proofs.Divisors.{gcd_rest, gcd_with_zero}
use Rattle.stp_frac.proofs.divisor.gcd.Goals as goal

pub steps-preserved : goal.steps-preserved
steps-preserved c = gcd_rest c.steps.x c.steps.y ∙ c.steps.invariant

pub returns : goal.returns
returns c = sym (gcd_with_zero c.steps.x) ∙ ap (gcd c.steps.x) (sym c.steps-test.false) ∙ c.steps.invariant
