use Rattle.stp_strength.proofs.Strong.{strong_exactly_where_sound}
use Rattle.stp_strength.proofs.laws.strong_exactly_where_sound.Goals as goal

pub returns : goal.returns
returns c = strong_exactly_where_sound
