use Rattle.stp_strength.proofs.Parts.{states_go_by_parts}
use Rattle.stp_strength.proofs.laws.states_go_by_parts.Goals as goal

pub returns : goal.returns
returns c = states_go_by_parts
