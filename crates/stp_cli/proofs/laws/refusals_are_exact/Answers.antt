use Rattle.stp_cli.proofs.Headlines.{refusals_are_exact}
use Rattle.stp_cli.proofs.laws.refusals_are_exact.Goals as goal

pub returns : goal.returns
returns c = refusals_are_exact
