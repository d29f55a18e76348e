use Rattle.stp_cli.proofs.Headlines.{plans_meet_the_headline}
use Rattle.stp_cli.proofs.laws.plans_meet_the_headline.Goals as goal

pub returns : goal.returns
returns c = plans_meet_the_headline
