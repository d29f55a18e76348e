use Rattle.stp_window.proofs.WellMade.{boxes_are_well_made}
use Rattle.stp_window.proofs.laws.boxes_are_well_made.Goals as goal

pub returns : goal.returns
returns c = boxes_are_well_made
