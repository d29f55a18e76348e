use Rattle.std.proofs.Common.{◌∷◌, map, refl, ap, ◌∙◌}
use Rattle.stp_cond.specs.Formulas.{view, formulas_of, Conjunction}
use Rattle.stp_cond.specs.Views.{atoms_of}
use Rattle.stp_cond.proofs.Viewing.{view_and}
use Rattle.stp_expand.specs.Expanded.{not_opened}
use Rattle.stp_rewrite.proofs.Lists.{all_done}
use Rattle.stp_rewrite.proofs.making.guarded_by.Goals as goal

pub returns : goal.returns
returns c =
    ap view c.in_ok-made.ensures
    ∙ (view_and _
    ∙ (ap (λ l. Conjunction (formulas_of (map view l))) (c.in_ok-slice.ensures ∙ c.deref.ensures.value)
    ∙ ap (λ l. Conjunction (formulas_of l)) (all_done (λ l. map not_opened (atoms_of l)) (map view c.loop-atom.parts.items) (view c.args.cond.now ∷ map not_opened (atoms_of c.args.locks.now)) c.args.locks.now c.loop-atom.atom-index refl c.loop-atom-test.false c.loop-atom.invariant)))
