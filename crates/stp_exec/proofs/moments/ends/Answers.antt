use Rattle.std.proofs.Common.{arith}
use Rattle.stp_frac.specs.Fractions.{value_of}
use Rattle.stp_exec.proofs.Bounds.{fixed_above, low_above, high_above_zero}
use Rattle.stp_exec.proofs.moments.ends.Goals as goal

pub count-requires-clause-above : goal.count-requires-clause-above
count-requires-clause-above c = fixed_above (value_of c.in-Fixed.duration) (rw c.in-Fixed.is at c.requires.lawful)

pub count-requires-in-Open-clause-above : goal.count-requires-in-Open-clause-above
count-requires-in-Open-clause-above c = low_above (value_of c.in-Open.low) (value_of c.in-Open.high) (rw c.in-Open.is at c.requires.lawful)

pub count-requires-in-Open-2-clause-above : goal.count-requires-in-Open-2-clause-above
count-requires-in-Open-2-clause-above c = high_above_zero c.args.grid (value_of c.in-Open.low) (value_of c.in-Open.high) (omega (arith, c.requires.low)) (rw c.in-Open.is at c.requires.lies) (rw c.in-Open.is at c.requires.lawful)
