use Rattle.stp_happen.proofs.Moving.{finer_runs_agree}
use Rattle.stp_happen.proofs.laws.finer_runs_agree.Goals as goal

pub returns : goal.returns
returns c = finer_runs_agree
