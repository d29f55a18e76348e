use Rattle.stp_split.proofs.Splitting.{apart_formulas_fail_together}
use Rattle.stp_split.proofs.laws.apart_formulas_fail_together.Goals as goal

pub returns : goal.returns
returns c = apart_formulas_fail_together
