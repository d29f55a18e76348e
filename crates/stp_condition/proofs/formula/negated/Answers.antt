use Rattle.std.proofs.Common.{◌∙◌, ap}
use Rattle.stp_schema.specs.Formula.{formula, Not}
use Rattle.stp_schema.proofs.Equations.{formula_not}
use Rattle.stp_condition.proofs.formula.negated.Goals as goal

pub returns : goal.returns
returns c = formula_not _ ∙ ap (λ x. Not (formula x)) c.in_ok-inner.ensures
