use Rattle.std.proofs.Common.{◌∙◌, ap}
use Rattle.stp_schema.specs.Formula.{formula, Every, Any}
use Rattle.stp_schema.proofs.Equations.{formula_every, formula_any}
use Rattle.stp_condition.proofs.formula.quantified.Goals as goal

pub returns-then-every : goal.returns-then-every
returns-then-every c = rw c.if-every.true (formula_every _ _ ∙ ap (λ x. Every c.args.kinds.now (formula x)) c.in_ok-body.ensures)

pub returns : goal.returns
returns c = rw c.if-every.false (formula_any _ _ ∙ ap (λ x. Any c.args.kinds.now (formula x)) c.in_ok-body.ensures)
