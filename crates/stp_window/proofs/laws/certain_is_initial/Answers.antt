use Rattle.stp_window.proofs.LastWay.{certain_is_initial}
use Rattle.stp_window.proofs.laws.certain_is_initial.Goals as goal

pub returns : goal.returns
returns c = certain_is_initial
