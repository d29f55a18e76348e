use Rattle.stp_rewriting.proofs.Boxes.{strong_exactly_where_valid}
use Rattle.stp_rewriting.proofs.laws.strong_exactly_where_valid.Goals as goal

pub returns : goal.returns
returns c = strong_exactly_where_valid
