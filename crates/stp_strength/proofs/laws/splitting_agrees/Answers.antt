use Rattle.stp_strength.proofs.Splits.{splitting_agrees}
use Rattle.stp_strength.proofs.laws.splitting_agrees.Goals as goal

pub returns : goal.returns
returns c = splitting_agrees
