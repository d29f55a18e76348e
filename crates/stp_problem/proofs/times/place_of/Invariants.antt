use Rattle.std.proofs.Common.{◌≡◌, drop}
use Rattle.stp_frac.specs.Fractions.{value_of}
use Rattle.stp_problem.specs.Events.{place_from}
use Rattle.stp_problem.specs.TimedViews.{times_of}
use Rattle.stp_problem.proofs.times.place_of.Given as goal

abbrev pub invariant-loop-other : goal.invariant-loop-other
invariant-loop-other l = record {
  counted : l.place ≡ l.other-index;
  same : place_from l.place (value_of l.time) (times_of (drop l.other-index l.times)) ≡ place_from 0 (value_of l.time) (times_of l.times);
}
