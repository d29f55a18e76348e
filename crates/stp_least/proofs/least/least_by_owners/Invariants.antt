-- The box of the search keeps the least failure.
use Rattle.std.proofs.Common.{◌≡◌, length}
use Rattle.stp_happen.specs.OwnedViews.{plain_owned}
use Rattle.stp_least.specs.Places.{IsSearch}
use Rattle.stp_least.specs.Searching.{KeepsLeastFailure}
use Rattle.stp_least.proofs.least.least_by_owners.Given as goal

abbrev pub invariant-loop-index : goal.invariant-loop-index
invariant-loop-index l = record {
  long : l.count ≡ length l.search.boxed.owners;
  search : IsSearch l.index l.search;
  least : KeepsLeastFailure (plain_owned l.fn.boxed) (plain_owned l.search.boxed);
}
