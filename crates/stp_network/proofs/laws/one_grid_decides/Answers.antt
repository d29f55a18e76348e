-- The law is the lemma that moves times to the grid.
use Rattle.stp_network.proofs.Fractions.{one_grid}
use Rattle.stp_network.proofs.laws.one_grid_decides.Goals as goal

pub returns : goal.returns
returns c = one_grid
