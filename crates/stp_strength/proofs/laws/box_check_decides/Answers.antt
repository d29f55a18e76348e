use Rattle.stp_strength.proofs.BoxLaws.{box_check_decides}
use Rattle.stp_strength.proofs.laws.box_check_decides.Goals as goal

pub returns : goal.returns
returns c = box_check_decides
