use Rattle.stp_relax.proofs.Impossible.{certificates_hold}
use Rattle.stp_relax.proofs.laws.certificates_hold.Goals as goal

pub returns : goal.returns
returns c = certificates_hold
