use Rattle.stp_strength.proofs.BoxGaps.{failures_mean_weakness}
use Rattle.stp_strength.proofs.laws.failures_mean_weakness.Goals as goal

pub returns : goal.returns
returns c = failures_mean_weakness
