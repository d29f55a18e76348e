-- What is found so far, and the ends that are left, give all footprints.
use Rattle.std.proofs.Common.{◌≡◌, [], map, drop}
use Rattle.std.specs.List.{fold}
use Rattle.stp_cond.specs.Views.{atoms_of}
use Rattle.stp_expand.specs.Footprints.{part_of, with_part}
use Rattle.stp_expand.specs.Views.{footprints_of}
use Rattle.stp_expand.proofs.merging.merged.Given as goal

abbrev pub invariant-loop-end : goal.invariant-loop-end
invariant-loop-end l = fold with_part (footprints_of l.found.items) (map (part_of (atoms_of l.atoms)) (footprints_of (drop l.end-index l.ends))) ≡ fold with_part [] (map (part_of (atoms_of l.atoms)) (footprints_of l.ends))
