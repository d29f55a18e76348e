use Rattle.std.proofs.Common.{◌≡◌, drop}
use Rattle.std.specs.List.{list_all}
use Rattle.stp_window.specs.Views.{spans_of}
use Rattle.stp_strength.specs.Failures.{stay_apart}
use Rattle.stp_check.proofs.overlaps.first_overlap.Given as goal

abbrev pub invariant-loop-one : goal.invariant-loop-one
invariant-loop-one l = list_all (λ x. list_all (stay_apart x) (spans_of l.spans)) (spans_of (drop l.one-index l.spans)) ≡ list_all (λ x. list_all (stay_apart x) (spans_of l.spans)) (spans_of l.spans)
