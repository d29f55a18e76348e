use Rattle.stp_strength.proofs.BoxLaws.{box_grid_decides}
use Rattle.stp_strength.proofs.laws.box_grid_decides.Goals as goal

pub returns : goal.returns
returns c = box_grid_decides
