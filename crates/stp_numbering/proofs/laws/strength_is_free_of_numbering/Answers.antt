use Rattle.stp_numbering.proofs.RenamedBoxes.{strength_is_free_of_numbering}
use Rattle.stp_numbering.proofs.laws.strength_is_free_of_numbering.Goals as goal

pub returns : goal.returns
returns c = strength_is_free_of_numbering
