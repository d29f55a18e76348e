use Rattle.std.proofs.Common.{[], ap, map, ◌∙◌}
use Rattle.std.specs.List.{fold}
use Rattle.stp_cond.specs.Formulas.{view, atoms_in}
use Rattle.stp_cond.specs.Views.{atoms_of}
use Rattle.stp_cond.proofs.EventLists.{sets_are_sets}
use Rattle.stp_expand.specs.Footprints.{part_of, with_part}
use Rattle.stp_expand.specs.Views.{footprints_of}
use Rattle.stp_expand.proofs.Placing.{parts_of_set}
use Rattle.stp_expand.proofs.merging.footprints_on.Goals as goal

pub merged-requires : goal.merged-requires
merged-requires c = sets_are_sets (atoms_in (view c.args.cond.now)) c.as_slice.result.now (ap atoms_of c.as_slice.ensures ∙ c.in_ok-read.ensures.atoms)

pub returns : goal.returns
returns c =
    c.in_ok-found.ensures
    ∙ (ap (λ l. fold with_part [] (map (part_of l) (footprints_of c.args.ends.now))) (ap atoms_of c.as_slice.ensures ∙ c.in_ok-read.ensures.atoms)
    ∙ ap (fold with_part []) (parts_of_set (atoms_in (view c.args.cond.now)) (footprints_of c.args.ends.now)))
