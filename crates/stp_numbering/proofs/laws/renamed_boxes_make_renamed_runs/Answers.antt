use Rattle.stp_numbering.proofs.RenamedBoxes.{renamed_boxes_make_renamed_runs}
use Rattle.stp_numbering.proofs.laws.renamed_boxes_make_renamed_runs.Goals as goal

pub returns : goal.returns
returns c = renamed_boxes_make_renamed_runs
