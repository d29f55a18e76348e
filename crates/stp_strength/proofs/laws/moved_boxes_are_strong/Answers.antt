use Rattle.stp_strength.proofs.Strong.{moved_boxes_are_strong}
use Rattle.stp_strength.proofs.laws.moved_boxes_are_strong.Goals as goal

pub returns : goal.returns
returns c = moved_boxes_are_strong
