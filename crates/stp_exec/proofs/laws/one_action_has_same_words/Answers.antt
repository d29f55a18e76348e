use Rattle.stp_exec.proofs.ActionWords.{one_action_has_same_words}
use Rattle.stp_exec.proofs.laws.one_action_has_same_words.Goals as goal

pub returns : goal.returns
returns c = one_action_has_same_words
