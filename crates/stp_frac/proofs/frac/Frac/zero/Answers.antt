use Rattle.stp_frac.specs.Fractions.{value_of}
use Rattle.stp_frac.proofs.Zero.{zero_is, zero_is_some}
use Rattle.stp_frac.proofs.frac.Frac.zero.Goals as goal

pub unreachable-requires : goal.unreachable-requires
unreachable-requires c = zero_is_some c.in_default.ensures

pub returns : goal.returns
returns c = zero_is (value_of c.in-Some.zero) c.in-Some.ensures
