use Rattle.stp_cli.proofs.Headlines.{steady_names_are_read}
use Rattle.stp_cli.proofs.laws.steady_names_are_read.Goals as goal

pub returns : goal.returns
returns c = steady_names_are_read
