use Rattle.stp_strength.proofs.BoxGaps.{check_decides}
use Rattle.stp_strength.proofs.laws.check_decides.Goals as goal

pub returns : goal.returns
returns c = check_decides
