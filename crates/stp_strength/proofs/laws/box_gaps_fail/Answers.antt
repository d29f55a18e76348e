use Rattle.stp_strength.proofs.BoxLaws.{box_gaps_fail}
use Rattle.stp_strength.proofs.laws.box_gaps_fail.Goals as goal

pub returns : goal.returns
returns c = box_gaps_fail
