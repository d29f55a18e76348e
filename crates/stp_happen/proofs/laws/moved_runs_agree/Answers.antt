use Rattle.stp_happen.proofs.Moving.{moved_runs_agree}
use Rattle.stp_happen.proofs.laws.moved_runs_agree.Goals as goal

pub returns : goal.returns
returns c = moved_runs_agree
