use Rattle.std.proofs.Common.{map, ap, ◌∙◌}
use Rattle.stp_cond.specs.Formulas.{view, formulas_of, Disjunction}
use Rattle.stp_cond.proofs.Viewing.{view_or}
use Rattle.stp_expand.proofs.formulas.any_of.Goals as goal

pub returns : goal.returns
returns c = view_or _ ∙ ap (λ l. Disjunction (formulas_of (map view l))) c.in_ok-slice.ensures
