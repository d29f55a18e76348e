use Rattle.std.proofs.Common.{◌≡◌, ℕ, ◌+◌, ◌≤◌, ◌++◌, drop, All}
use Rattle.stp_happen.specs.SoundBox.{IsBoxTimed}
use Rattle.stp_happen.specs.SoundOwned.{IsOwner}
use Rattle.stp_happen.specs.Owners.{timed_owners}
use Rattle.stp_happen.specs.OwnerViews.{plain_owners}
use Rattle.stp_happen.specs.StepViews.{timed_of}
use Rattle.stp_happen.proofs.owning.push_timed.Given as goal

abbrev pub invariant-loop-event : goal.invariant-loop-event
invariant-loop-event l = record {
  next : l.next ≤ 501 + l.event-index;
  same : plain_owners l.owners ++ timed_owners l.next (timed_of (drop l.event-index l.timed)) ≡ plain_owners l.fn.owners ++ timed_owners l.first (timed_of l.timed);
  in_range : (grid n : ℕ) → All (IsOwner grid n) l.fn.owners → All (IsBoxTimed grid n) l.timed → All (IsOwner grid n) l.owners;
}
