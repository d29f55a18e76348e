use Rattle.stp_cli.proofs.Headlines.{strong_is_exact}
use Rattle.stp_cli.proofs.laws.strong_is_exact.Goals as goal

pub returns : goal.returns
returns c = strong_is_exact
