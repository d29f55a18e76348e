use Rattle.stp_rewriting.proofs.Validity.{sound_exactly_where_valid}
use Rattle.stp_rewriting.proofs.laws.sound_exactly_where_valid.Goals as goal

pub returns : goal.returns
returns c = sound_exactly_where_valid
