use Rattle.std.proofs.Common.{map, ap, ◌∙◌}
use Rattle.stp_cond.specs.Formulas.{view, formulas_of, Conjunction}
use Rattle.stp_cond.proofs.Viewing.{view_and}
use Rattle.stp_expand.proofs.formulas.all_of.Goals as goal

pub returns : goal.returns
returns c = view_and _ ∙ ap (λ l. Conjunction (formulas_of (map view l))) c.in_ok-slice.ensures
