use Rattle.std.proofs.Common.{map, ◌∙◌, ap}
use Rattle.stp_schema.specs.Formula.{formula}
use Rattle.stp_schema.proofs.Equations.{formula_and}
use Rattle.stp_condition.specs.Conditions.{each_of}
use Rattle.stp_condition.proofs.gather.conjunction.Goals as goal

pub returns : goal.returns
returns c = formula_and _ ∙ ap (λ members. each_of (map formula members)) c.in_ok-members.ensures
