use Rattle.std.proofs.Common.{◌≡◌, ℕ, ◌++◌, drop, All}
use Rattle.stp_cond.specs.Events.{IsEventInRange}
use Rattle.stp_happen.specs.SoundOwned.{IsOwner}
use Rattle.stp_happen.specs.OwnerViews.{plain_owners}
use Rattle.stp_window.specs.OwnerWindows.{points_of_owners}
use Rattle.stp_window.specs.Views.{points_of}
use Rattle.stp_window.proofs.windows.windows_of.Given as goal

abbrev pub invariant-loop-owner : goal.invariant-loop-owner
invariant-loop-owner l = record {
  points : points_of l.windows.items ++ points_of_owners (plain_owners (drop l.owner-index l.owners)) ≡ points_of_owners (plain_owners l.owners);
  in_range : (grid n : ℕ) → All (IsOwner grid n) l.owners → All (λ w. IsEventInRange n w.event) l.windows.items;
}
