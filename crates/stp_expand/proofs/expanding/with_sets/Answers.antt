use Rattle.std.proofs.Common.{◌++◌, map, length, ◌^◌, ◌<◌, ◌≤◌, subst, ap, ◌∙◌}
use Rattle.stp_cond.specs.Formulas.{view, formulas_of, Conjunction}
use Rattle.stp_expand.specs.Views.{footprints_of, shadow_in}
use Rattle.stp_expand.proofs.Numbered.{made_for, next_number, all_numbers, picked_views}
use Rattle.stp_expand.proofs.expanding.with_sets.Goals as goal

pub loop-number-preserved : goal.loop-number-preserved
loop-number-preserved c =
    let below : c.loop-number.number < 2 ^ length c.args.footprints.now = subst (λ m. c.loop-number.number < m) c.sets_of-number-end.ensures c.loop-number-test.true in
    next_number (shadow_in c.args.shadow_of.now) (view c.args.cond.now) (footprints_of c.args.footprints.now) (map view c.loop-number.parts.items) (map view c.add_set.new.parts.items) _ c.loop-number.number (2 ^ length c.args.footprints.now) below
    (c.in_ok-add_set.ensures ∙ ap (λ set. map view c.loop-number.parts.items ++ made_for (shadow_in c.args.shadow_of.now) (view c.args.cond.now) set) (ap footprints_of (c.as_slice.ensures.value ∙ c.in_ok-set.ensures) ∙ picked_views c.args.footprints.now c.loop-number.number))
    c.loop-number.invariant

pub returns : goal.returns
returns c =
    let past : 2 ^ length c.args.footprints.now ≤ c.loop-number.number = subst (λ m. m ≤ c.loop-number.number) c.sets_of-number-end.ensures c.loop-number-test.false in
    c.in_ok-made.ensures
    ∙ (ap (λ l. Conjunction (formulas_of (map view l))) c.as_slice-2.ensures.value
    ∙ ap (λ l. Conjunction (formulas_of l)) (all_numbers (shadow_in c.args.shadow_of.now) (view c.args.cond.now) c.args.footprints.now (map view c.loop-number.parts.items) c.loop-number.number (2 ^ length c.args.footprints.now) past c.loop-number.invariant))
