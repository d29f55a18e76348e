use Rattle.stp_strength.proofs.BoxGaps.{gaps_fail}
use Rattle.stp_strength.proofs.laws.gaps_fail.Goals as goal

pub returns : goal.returns
returns c = gaps_fail
