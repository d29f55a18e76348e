-- The first of those so far.
use Rattle.std.proofs.Common.{◌≡◌, take}
use Rattle.std.specs.List.{filter_map}
use Rattle.stp_happen.specs.Faults.{overlap_of}
use Rattle.stp_happen.specs.Firsts.{first_from}
use Rattle.stp_happen.specs.Views.{span_of, spans_of}
use Rattle.stp_happen.proofs.pairs.first_overlap_with.Given as goal

abbrev pub invariant-loop-other : goal.invariant-loop-other
invariant-loop-other l = l.best ≡ first_from l.fn.best (filter_map (overlap_of (span_of l.one)) (spans_of (take l.other-index l.spans)))
