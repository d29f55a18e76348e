-- The grid so far is that of the times from this one on.
use Rattle.std.proofs.Common.{◌≡◌, ◌≤◌, map, drop, length}
use Rattle.stp_frac.specs.Fractions.{value_of}
use Rattle.stp_kept.specs.KeptTasks.{grid_of_times}
use Rattle.stp_kept.proofs.timing.grid_of.Given as goal

abbrev pub decreases-joins : goal.decreases-joins
decreases-joins l = l.at

abbrev pub invariant-joins : goal.invariant-joins
invariant-joins l = record {
  same : l.grid ≡ grid_of_times (map value_of (drop l.at l.times));
  low : 1 ≤ l.grid;
  high : l.grid ≤ 600000;
  within : l.at ≤ length l.times;
}
