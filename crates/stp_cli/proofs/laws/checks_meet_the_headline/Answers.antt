use Rattle.stp_cli.proofs.Headlines.{checks_meet_the_headline}
use Rattle.stp_cli.proofs.laws.checks_meet_the_headline.Goals as goal

pub returns : goal.returns
returns c = checks_meet_the_headline
