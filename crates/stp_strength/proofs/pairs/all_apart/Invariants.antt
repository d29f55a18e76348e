use Rattle.std.proofs.Common.{◌≡◌, drop}
use Rattle.std.specs.List.{list_all}
use Rattle.stp_strength.specs.Failures.{stay_apart}
use Rattle.stp_window.specs.Views.{spans_of}
use Rattle.stp_strength.proofs.pairs.all_apart.Given as goal

abbrev pub invariant-loop-one : goal.invariant-loop-one
invariant-loop-one l = list_all (λ x. list_all (stay_apart x) (spans_of l.steps)) (spans_of (drop l.one-index l.steps)) ≡ list_all (λ x. list_all (stay_apart x) (spans_of l.steps)) (spans_of l.steps)
