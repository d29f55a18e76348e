use Rattle.stp_strength.proofs.Sound.{executes_always_exactly_where_sound}
use Rattle.stp_strength.proofs.laws.executes_always_exactly_where_sound.Goals as goal

pub returns : goal.returns
returns c = executes_always_exactly_where_sound
