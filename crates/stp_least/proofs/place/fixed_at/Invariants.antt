-- The bounds so far fail, and keep the least failure.
use Rattle.std.proofs.Common.{◌-◌}
use Rattle.stp_happen.specs.OwnedViews.{plain_owned}
use Rattle.stp_least.specs.Searching.{KeepsLeastFailure}
use Rattle.stp_least.specs.Places.{box_at, IsFailing}
use Rattle.stp_least.proofs.place.fixed_at.Given as goal

abbrev pub invariant-loop-failing : goal.invariant-loop-failing
invariant-loop-failing l = record {
  failing : IsFailing l.place l.failing;
  least : KeepsLeastFailure (plain_owned l.place.boxed.now) (box_at l.place l.failing.low l.failing.high);
}

abbrev pub decreases-loop-failing : goal.decreases-loop-failing
decreases-loop-failing l = l.failing.high - l.failing.low
