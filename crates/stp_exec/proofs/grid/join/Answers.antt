use Rattle.std.proofs.Common.{◌≤◌, IfSome, subst, sym, arith}
use Rattle.stp_frac.specs.Divisors.{lcm}
use Rattle.stp_frac.proofs.Divisors.{lcm_pos}
use Rattle.stp_exec.proofs.Multiples.{within_pos}
use Rattle.stp_exec.proofs.grid.join.Goals as goal

pub returns-clause-low : goal.returns-clause-low
returns-clause-low c = subst (λ r. IfSome r (λ joint. 1 ≤ joint)) (sym c.join_grid.ensures) (within_pos 999999999 (lcm c.args.grid c.args.number.bottom) (lcm_pos c.args.grid c.args.number.bottom (omega (arith, c.requires.low)) (omega (arith, c.args.number.low))))
