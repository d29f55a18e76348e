use Rattle.stp_numbering.proofs.Renaming.{numbering_is_free}
use Rattle.stp_numbering.proofs.laws.numbering_is_free.Goals as goal

pub returns : goal.returns
returns c = numbering_is_free
