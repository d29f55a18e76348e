use Rattle.stp_window.proofs.WellMade.{runs_are_well_made}
use Rattle.stp_window.proofs.laws.runs_are_well_made.Goals as goal

pub returns : goal.returns
returns c = runs_are_well_made
