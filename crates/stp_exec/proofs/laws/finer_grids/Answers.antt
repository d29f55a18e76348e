use Rattle.stp_exec.proofs.LeastGrids.{finer_grids_keep_moments, finer_grids_keep_events}
use Rattle.stp_exec.proofs.laws.finer_grids.Goals as goal

pub returns-clause-steps : goal.returns-clause-steps
returns-clause-steps c = finer_grids_keep_moments

pub returns-clause-events : goal.returns-clause-events
returns-clause-events c = finer_grids_keep_events
