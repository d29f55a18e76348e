use Rattle.stp_exec.proofs.PlacedSteps.{same_words_are_one_action}
use Rattle.stp_exec.proofs.laws.same_words_are_one_action.Goals as goal

pub returns : goal.returns
returns c = same_words_are_one_action
