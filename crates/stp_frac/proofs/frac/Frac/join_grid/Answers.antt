use Rattle.std.proofs.Common.{◌≡◌, ℕ, ◌*◌, ◌/◌, ◌<◌, subst, sym, ap, ◌∙◌, arith}
use Rattle.std.proofs.lemmas.Grind.{common_steps}
use Rattle.stp_frac.specs.Divisors.{lcm}
use Rattle.stp_frac.proofs.Divisors.{gcd_pos, lcm_is}
use Rattle.stp_frac.proofs.frac.Frac.join_grid.Goals as goal

pub nonzero_div-joint : goal.nonzero_div-joint
nonzero_div-joint c = subst (λ (g : ℕ). 0 < g) (sym c.gcd.ensures) (gcd_pos c.args.k c.args.f.bottom (omega arith))

pub returns-then-joint-limit : goal.returns-then-joint-limit
returns-then-joint-limit c =
    let k = c.args.k in
    let b = c.args.f.bottom in
    let e : lcm k b ≡ k / c.gcd.result * b = lcm_is k b (omega arith) (omega arith) ∙ ap (λ g. k / g * b) (sym c.gcd.ensures) in
    rw e (grind (arith, common_steps))

pub returns : goal.returns
returns c =
    let k = c.args.k in
    let b = c.args.f.bottom in
    let e : lcm k b ≡ k / c.gcd.result * b = lcm_is k b (omega arith) (omega arith) ∙ ap (λ g. k / g * b) (sym c.gcd.ensures) in
    rw e (grind (arith, common_steps))
