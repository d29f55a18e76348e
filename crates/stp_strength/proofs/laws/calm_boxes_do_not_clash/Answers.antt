use Rattle.stp_strength.proofs.Parts.{calm_boxes_do_not_clash}
use Rattle.stp_strength.proofs.laws.calm_boxes_do_not_clash.Goals as goal

pub returns : goal.returns
returns c = calm_boxes_do_not_clash
