use Rattle.stp_frac.specs.Fractions.{value_of}
use Rattle.stp_kept.proofs.TaskTimes.{longest_is, longest_is_some}
use Rattle.stp_kept.proofs.timing.longest.Goals as goal

pub unreachable-requires : goal.unreachable-requires
unreachable-requires c = longest_is_some c.in_default.ensures

pub returns : goal.returns
returns c = longest_is (value_of c.in-Some.longest) c.in-Some.ensures
