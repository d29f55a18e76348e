use Rattle.std.proofs.Common.{◌≡◌, ◌++◌, drop}
use Rattle.stp_happen.specs.OwnerViews.{plain_owners}
use Rattle.stp_window.specs.Ends.{numbers_of, unsettled_among}
use Rattle.stp_window.proofs.ends.unsettled_among.Given as goal

abbrev pub invariant-loop-owner : goal.invariant-loop-owner
invariant-loop-owner l = numbers_of l.found ++ unsettled_among (plain_owners (drop l.owner-index l.owners)) l.time ≡ unsettled_among (plain_owners l.owners) l.time
