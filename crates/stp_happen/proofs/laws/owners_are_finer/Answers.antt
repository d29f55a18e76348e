use Rattle.stp_happen.proofs.OwnerLists.{owners_are_finer}
use Rattle.stp_happen.proofs.laws.owners_are_finer.Goals as goal

pub returns : goal.returns
returns c = owners_are_finer
