-- The two numbers keep their greatest common divisor.
use Rattle.std.proofs.Common.{◌≡◌}
use Rattle.stp_frac.specs.Divisors.{gcd}
use Rattle.stp_frac.proofs.divisor.gcd.Given as goal

abbrev pub invariant-steps : goal.invariant-steps
invariant-steps l = gcd l.x l.y ≡ gcd l.fn.a l.fn.b

abbrev pub decreases-steps : goal.decreases-steps
decreases-steps l = l.y
