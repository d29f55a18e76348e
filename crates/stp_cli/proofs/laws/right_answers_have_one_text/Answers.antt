use Rattle.stp_cli.proofs.OneAnswer.{right_answers_have_one_text}
use Rattle.stp_cli.proofs.laws.right_answers_have_one_text.Goals as goal

pub returns : goal.returns
returns c = right_answers_have_one_text
