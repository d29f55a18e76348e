use Rattle.stp_strength.proofs.Narrow.{narrower_boxes_are_strong}
use Rattle.stp_strength.proofs.laws.narrower_boxes_are_strong.Goals as goal

pub returns : goal.returns
returns c = narrower_boxes_are_strong
