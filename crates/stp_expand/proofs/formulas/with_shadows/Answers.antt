use Rattle.std.proofs.Common.{ap, ◌∙◌}
use Rattle.stp_cond.specs.Formulas.{view}
use Rattle.stp_cond.specs.Substituted.{substituted}
use Rattle.stp_cond.specs.Views.{atoms_of}
use Rattle.stp_cond.proofs.EventLists.{sets_are_sets}
use Rattle.stp_expand.specs.Views.{footprints_of, shadow_in}
use Rattle.stp_expand.proofs.Shadows.{image_is_shadow}
use Rattle.stp_expand.proofs.formulas.with_shadows.Goals as goal

pub substitute-requires-clause-once : goal.substitute-requires-clause-once
substitute-requires-clause-once c = sets_are_sets (atoms_of c.as_slice.result.now) c.in_ok-from.from.now c.in_ok-from.ensures

pub returns : goal.returns
returns c =
    c.in_ok-made.ensures
    ∙ ap (λ i. substituted i (view c.args.cond.now))
    (image_is_shadow (shadow_in c.args.shadow_of.now) (footprints_of c.args.set.now) (atoms_of c.as_slice.result.now) (atoms_of c.in_ok-from.from.now) (atoms_of c.as_slice-2.result.now)
    (ap atoms_of c.as_slice.ensures.value ∙ c.in_ok-all.ensures) c.in_ok-from.ensures (ap atoms_of c.as_slice-2.ensures.value ∙ c.in_ok-to.ensures))
