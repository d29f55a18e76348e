use Rattle.std.proofs.Common.{◌≡◌, drop}
use Rattle.std.specs.List.{list_all}
use Rattle.stp_strength.specs.Failures.{stay_calm}
use Rattle.stp_window.specs.Views.{point_of, points_of}
use Rattle.stp_strength.proofs.pairs.calm_with.Given as goal

abbrev pub invariant-loop-other : goal.invariant-loop-other
invariant-loop-other l = list_all (stay_calm (point_of l.one)) (points_of (drop l.other-index l.windows)) ≡ list_all (stay_calm (point_of l.one)) (points_of l.windows)
