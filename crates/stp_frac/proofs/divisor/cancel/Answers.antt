use Rattle.std.proofs.Common.{ℕ, ◌/◌, ◌<◌, subst, sym, arith, div-le_self}
use Rattle.stp_frac.specs.Divisors.{gcd}
use Rattle.stp_frac.proofs.Divisors.{gcd_pos, gcd_of_parts, part_pos}
use Rattle.stp_frac.proofs.divisor.cancel.Goals as goal

pub nonzero_div-result : goal.nonzero_div-result
nonzero_div-result c = subst (λ (g : ℕ). 0 < g) (sym c.gcd-divisor.ensures) (gcd_pos c.args.top c.args.bottom (omega arith))

pub nonzero_div-result-2 : goal.nonzero_div-result-2
nonzero_div-result-2 c = subst (λ (g : ℕ). 0 < g) (sym c.gcd-divisor.ensures) (gcd_pos c.args.top c.args.bottom (omega arith))

pub returns-clause-lowest : goal.returns-clause-lowest
returns-clause-lowest c = rw c.gcd-divisor.ensures (gcd_of_parts c.args.top c.args.bottom (omega arith))

pub returns-clause-low : goal.returns-clause-low
returns-clause-low c =
    rw c.gcd-divisor.ensures (let h : 0 < c.args.bottom / gcd c.args.top c.args.bottom = part_pos c.args.top c.args.bottom (omega arith) in omega arith)

pub returns-clause-top_size : goal.returns-clause-top_size
returns-clause-top_size c = div-le_self c.args.top c.gcd-divisor.result

pub returns-clause-bottom_size : goal.returns-clause-bottom_size
returns-clause-bottom_size c = div-le_self c.args.bottom c.gcd-divisor.result
