use Rattle.std.proofs.Common.{Err, map, sym, ap, ◌∙◌}
use Rattle.stp_cond.specs.Formulas.{Conjunction, view, formulas_of}
use Rattle.stp_cond.proofs.Viewing.{view_and}
use Rattle.stp_expand.specs.declared.fault.ExpandFault.TheVariants.{TooManyFootprints}
use Rattle.stp_expand.specs.Expanded.{expanded}
use Rattle.stp_expand.specs.Footprints.{has_too_many}
use Rattle.stp_expand.specs.Views.{footprints_of, shadow_in}
use Rattle.stp_expand.proofs.Parts.{expanded_parts, many_in_parts, same_fault}
use Rattle.stp_expand.proofs.expanding.+expand.Goals as goal

pub expand-returns-in_err-members-in-And-clause-many : goal.expand-returns-in_err-members-in-And-clause-many
expand-returns-in_err-members-in-And-clause-many t c = λ e.
    ap (has_too_many (footprints_of c.args.ends.now)) (ap view c.in-And.is ∙ view_and c.in-And.parts)
    ∙ (many_in_parts (footprints_of c.args.ends.now) c.in-And.parts.now
    ∙ c.expand_all.ensures.many (c.in_err-members-in-And.was ∙ ap Err (same_fault c.from_residual.result c.in_err-members-in-And.field-0.0 TooManyFootprints c.from_residual.ensures.1 e)))

pub expand-returns-in_ok-made-in-And-clause-ok : goal.expand-returns-in_ok-made-in-And-clause-ok
expand-returns-in_ok-made-in-And-clause-ok t c =
    c.in_ok-made-in-And.ensures
    ∙ (ap (λ l. Conjunction (formulas_of l)) (ap (map view) c.as_slice.ensures.value ∙ c.in_ok-members-in-And.ensures.ok)
    ∙ (ap Conjunction (expanded_parts (shadow_in c.args.shadow_of.now) (footprints_of c.args.ends.now) c.in-And.parts.now)
    ∙ ap (expanded (shadow_in c.args.shadow_of.now) (footprints_of c.args.ends.now)) (sym (ap view c.in-And.is ∙ view_and c.in-And.parts))))

pub expand-returns-in_ok-made-in-And-clause-few : goal.expand-returns-in_ok-made-in-And-clause-few
expand-returns-in_ok-made-in-And-clause-few t c =
    ap (has_too_many (footprints_of c.args.ends.now)) (ap view c.in-And.is ∙ view_and c.in-And.parts)
    ∙ (many_in_parts (footprints_of c.args.ends.now) c.in-And.parts.now ∙ c.in_ok-members-in-And.ensures.few)
