use Rattle.stp_happen.proofs.FinerBoxes.{finer_boxes_make_finer_runs}
use Rattle.stp_happen.proofs.laws.finer_boxes_make_finer_runs.Goals as goal

pub returns : goal.returns
returns c = finer_boxes_make_finer_runs
