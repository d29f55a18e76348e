use Rattle.stp_unreachable.proofs.NoRuns.{no_plan_runs}
use Rattle.stp_unreachable.proofs.laws.no_plan_runs.Goals as goal

pub returns : goal.returns
returns c = no_plan_runs
