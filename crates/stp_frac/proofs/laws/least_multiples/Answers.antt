use Rattle.stp_frac.proofs.Divisors.{lcm_pos, lcm_multiple_left, lcm_multiple_right, lcm_least}
use Rattle.stp_frac.proofs.laws.least_multiples.Goals as goal

pub returns : goal.returns
returns c = λ a b some some'. record {
  some = lcm_pos a b some some';
  left = lcm_multiple_left a b some some';
  right = lcm_multiple_right a b some some';
  least = λ n p q. lcm_least a b n some some' p q;
}
