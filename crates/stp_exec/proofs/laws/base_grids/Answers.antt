use Rattle.stp_exec.proofs.LeastGrids.{times_lie_on_the_base_grid, the_base_grid_is_least}
use Rattle.stp_exec.proofs.laws.base_grids.Goals as goal

pub returns-clause-lie : goal.returns-clause-lie
returns-clause-lie c = times_lie_on_the_base_grid

pub returns-clause-least : goal.returns-clause-least
returns-clause-least c = the_base_grid_is_least
