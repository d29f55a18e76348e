use Rattle.stp_frac.specs.Fractions.{value_of}
use Rattle.stp_problem.proofs.Latest.{latest_is, latest_is_some}
use Rattle.stp_problem.proofs.window.latest.Goals as goal

pub unreachable-requires : goal.unreachable-requires
unreachable-requires c = latest_is_some c.in_default.ensures

pub returns : goal.returns
returns c = latest_is (value_of c.in-Some.latest) c.in-Some.ensures
