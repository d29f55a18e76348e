use Rattle.std.proofs.Common.{◌≡◌, ℕ, ◌++◌, drop, map, All}
use Rattle.stp_happen.specs.Bounds.{MayEndWithin, bounded_owner}
use Rattle.stp_happen.specs.OwnerViews.{plain_owners}
use Rattle.stp_happen.specs.SoundOwned.{IsOwner}
use Rattle.stp_happen.proofs.bounds.owners_within.Given as goal

abbrev pub invariant-loop-owner : goal.invariant-loop-owner
invariant-loop-owner l = record {
  same : plain_owners l.bounded ++ map (bounded_owner l.number l.low l.high) (plain_owners (drop l.owner-index l.owners)) ≡ map (bounded_owner l.number l.low l.high) (plain_owners l.owners);
  in_range : (grid n : ℕ) → All (IsOwner grid n) l.owners → All (λ o. o.number ≡ l.number → MayEndWithin grid l.low l.high o) l.owners → All (IsOwner grid n) l.bounded;
}
