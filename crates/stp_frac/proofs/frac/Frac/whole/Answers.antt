use Rattle.std.proofs.Common.{◌≡◌, false}
use Rattle.stp_frac.specs.Divisors.{divides}
use Rattle.stp_frac.specs.Fractions.{whole_of}
use Rattle.stp_frac.proofs.Divisors.{no_divisor}
use Rattle.stp_frac.proofs.frac.Frac.whole.Goals as goal

pub returns-then-self-ne1 : goal.returns-then-self-ne1
unfolding whole_of
returns-then-self-ne1 c =
    let s = c.args.self in
    let e : divides s.bottom s.top ≡ false = no_divisor s.top s.bottom s.lowest c.if-self-ne1.true in
    rw (c.if-self.false, e)
