use Rattle.stp_strength.proofs.Gaps.{tests_show_gaps}
use Rattle.stp_strength.proofs.laws.tests_show_gaps.Goals as goal

pub returns : goal.returns
returns c = tests_show_gaps
