use Rattle.stp_window.proofs.LastWay.{certain_is_the_last_way}
use Rattle.stp_window.proofs.laws.certain_is_the_last_way.Goals as goal

pub returns : goal.returns
returns c = certain_is_the_last_way
