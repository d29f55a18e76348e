use Rattle.stp_strength.proofs.Gaps.{tests_tell_facts}
use Rattle.stp_strength.proofs.laws.tests_tell_facts.Goals as goal

pub returns : goal.returns
returns c = tests_tell_facts
