use Rattle.stp_happen.proofs.FinerBoxes.{certain_boxes_are_strong}
use Rattle.stp_happen.proofs.laws.certain_boxes_are_strong.Goals as goal

pub returns : goal.returns
returns c = certain_boxes_are_strong
