use Rattle.stp_cli.proofs.Headlines.{right_answers_are_no_faults}
use Rattle.stp_cli.proofs.laws.right_answers_are_no_faults.Goals as goal

pub returns : goal.returns
returns c = right_answers_are_no_faults
