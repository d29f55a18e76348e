use Rattle.stp_strength.proofs.Strong.{one_grid_decides}
use Rattle.stp_strength.proofs.laws.one_grid_decides.Goals as goal

pub returns : goal.returns
returns c = one_grid_decides
