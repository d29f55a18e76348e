use Rattle.stp_cli.proofs.Headlines.{checks_have_one_text}
use Rattle.stp_cli.proofs.laws.checks_have_one_text.Goals as goal

pub returns : goal.returns
returns c = checks_have_one_text
