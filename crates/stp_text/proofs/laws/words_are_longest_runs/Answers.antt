use Rattle.stp_text.proofs.Runs.{words_are_longest_runs}
use Rattle.stp_text.proofs.laws.words_are_longest_runs.Goals as goal

pub returns : goal.returns
returns c = words_are_longest_runs
