use Rattle.stp_strength.proofs.Sound.{kept_at_every_moment}
use Rattle.stp_strength.proofs.laws.kept_at_every_moment.Goals as goal

pub returns : goal.returns
returns c = kept_at_every_moment
