use Rattle.stp_expand.proofs.Meaning.{expansion_means_whichever_came}
use Rattle.stp_expand.proofs.laws.expansion_means_whichever_came.Goals as goal

pub returns : goal.returns
returns c = expansion_means_whichever_came
