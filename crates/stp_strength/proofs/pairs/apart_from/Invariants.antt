use Rattle.std.proofs.Common.{◌≡◌, drop}
use Rattle.std.specs.List.{list_all}
use Rattle.stp_strength.specs.Failures.{stay_apart}
use Rattle.stp_window.specs.Views.{span_of, spans_of}
use Rattle.stp_strength.proofs.pairs.apart_from.Given as goal

abbrev pub invariant-loop-other : goal.invariant-loop-other
invariant-loop-other l = list_all (stay_apart (span_of l.one)) (spans_of (drop l.other-index l.steps)) ≡ list_all (stay_apart (span_of l.one)) (spans_of l.steps)
