use Rattle.stp_schema.proofs.Equations.{formula_and}
use Rattle.stp_domain.proofs.body.nothing_needed.Goals as goal

pub returns : goal.returns
returns c = formula_and _
