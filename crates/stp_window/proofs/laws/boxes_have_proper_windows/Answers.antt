use Rattle.stp_window.proofs.WellMade.{boxes_have_proper_windows}
use Rattle.stp_window.proofs.laws.boxes_have_proper_windows.Goals as goal

pub returns : goal.returns
returns c = boxes_have_proper_windows
