-- The first of those so far.
use Rattle.std.proofs.Common.{◌≡◌, take}
use Rattle.std.specs.List.{filter_map, flat_map}
use Rattle.stp_happen.specs.Faults.{overlap_of}
use Rattle.stp_happen.specs.Firsts.{first_from}
use Rattle.stp_happen.specs.Views.{spans_of}
use Rattle.stp_happen.proofs.pairs.first_overlap.Given as goal

abbrev pub invariant-loop-one : goal.invariant-loop-one
invariant-loop-one l = l.best ≡ first_from l.fn.best (flat_map (λ x. filter_map (overlap_of x) (spans_of l.spans)) (spans_of (take l.one-index l.spans)))
