use Rattle.std.proofs.Common.{subst}
use Rattle.stp_happen.specs.OwnedViews.{plain_owned}
use Rattle.stp_least.specs.Places.{box_at}
use Rattle.stp_least.specs.Searching.{KeepsLeastFailure}
use Rattle.stp_least.proofs.Placed.{own_failure, own_fits, same_box}
use Rattle.stp_least.proofs.place.fixed_at.Goals as goal

-- the search begins with the owner's own bounds
pub lowered-failing-requires-clause-fits : goal.lowered-failing-requires-clause-fits
lowered-failing-requires-clause-fits c = own_fits c.args.place c.args.durations c.requires.place c.requires.failure

pub lowered-failing-requires-clause-failure : goal.lowered-failing-requires-clause-failure
lowered-failing-requires-clause-failure c = own_failure c.args.place c.args.durations c.requires.place c.requires.failure

pub loop-failing-init : goal.loop-failing-init
loop-failing-init c = record {
  failing = c.lowered-failing.ensures.failing;
  least = subst (λ b. KeepsLeastFailure b (box_at c.args.place c.lowered-failing.result.low c.lowered-failing.result.high)) (same_box c.args.place c.requires.place) c.lowered-failing.ensures.least;
}
