use Rattle.stp_strength.proofs.BoxGaps.{strong_or_fails}
use Rattle.stp_strength.proofs.laws.strong_or_fails.Goals as goal

pub returns : goal.returns
returns c = strong_or_fails
