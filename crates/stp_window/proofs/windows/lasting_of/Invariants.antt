use Rattle.std.proofs.Common.{◌≡◌, ℕ, ◌++◌, drop, true, All}
use Rattle.stp_cond.specs.Truth.{is_below}
use Rattle.stp_happen.specs.SoundOwned.{IsOwner}
use Rattle.stp_happen.specs.OwnerViews.{plain_owners}
use Rattle.stp_window.specs.OwnerWindows.{open_spans_of_owners}
use Rattle.stp_window.specs.Views.{spans_of}
use Rattle.stp_window.proofs.windows.lasting_of.Given as goal

abbrev pub invariant-loop-owner : goal.invariant-loop-owner
invariant-loop-owner l = record {
  spans : spans_of l.lasting.items ++ open_spans_of_owners (plain_owners (drop l.owner-index l.owners)) ≡ open_spans_of_owners (plain_owners l.owners);
  in_range : (grid n : ℕ) → All (IsOwner grid n) l.owners → All (λ s. is_below n s.inside.over.now ≡ true) l.lasting.items;
}
