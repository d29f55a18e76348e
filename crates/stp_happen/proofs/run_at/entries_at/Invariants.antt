use Rattle.std.proofs.Common.{◌≡◌, ℕ, ◌++◌, drop, All}
use Rattle.stp_happen.specs.Sound.{IsEntryInRange}
use Rattle.stp_happen.specs.SoundOwned.{IsOwner}
use Rattle.stp_happen.specs.Views.{entries_of}
use Rattle.stp_happen.specs.Boxes.{entries_under, IsVector}
use Rattle.stp_happen.specs.OwnerViews.{plain_owners}
use Rattle.stp_happen.proofs.run_at.entries_at.Given as goal

abbrev pub invariant-loop-owner : goal.invariant-loop-owner
invariant-loop-owner l = record {
  vector : IsVector (plain_owners (drop l.owner-index l.owners)) l.durations;
  entries : entries_of l.entries.items ++ entries_under (plain_owners (drop l.owner-index l.owners)) l.durations ≡ entries_under (plain_owners l.owners) l.vector;
  in_range : (grid n : ℕ) → All (IsOwner grid n) l.owners → All (IsEntryInRange grid n) l.entries.items;
}
