use Rattle.stp_cli.proofs.Headlines.{checks_are_of_texts}
use Rattle.stp_cli.proofs.laws.checks_are_of_texts.Goals as goal

pub returns : goal.returns
returns c = checks_are_of_texts
