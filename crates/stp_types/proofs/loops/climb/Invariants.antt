use Rattle.std.proofs.Common.{◌≡◌, ◌≢◌, ℕ, ◌<◌, ◌⊎◌, length, slice_index}
use Rattle.std.specs.List.{sum_by}
use Rattle.stp_types.specs.Forest.{parent_of, IsBelow}
use Rattle.stp_types.proofs.Counts.{fresh}
use Rattle.stp_types.proofs.loops.climb.Given as goal

abbrev pub invariant-loop-at : goal.invariant-loop-at
invariant-loop-at l = record {
  len : length l.marks ≡ length l.parents;
  within : l.at < length l.parents;
  marked : (k : ℕ) → k < length l.parents → (slice_index l.marks k ≡ slice_index l.fn.marks k) ⊎ ((slice_index l.fn.marks k ≡ 0) × (slice_index l.marks k ≡ l.start) × (k ≢ 0));
  leads : (k : ℕ) → k < length l.parents → slice_index l.fn.marks k ≡ 0 → slice_index l.marks k ≡ l.start → IsBelow l.parents (parent_of l.parents k) l.at;
  upwards : (k : ℕ) → k < length l.parents → slice_index l.fn.marks k ≡ 0 → slice_index l.marks k ≡ l.start → (parent_of l.parents k ≡ l.at) ⊎ (0 < slice_index l.marks (parent_of l.parents k));
  begun : (l.start ≡ l.at) ⊎ (0 < slice_index l.marks l.start);
}

abbrev pub decreases-loop-at : goal.decreases-loop-at
decreases-loop-at l = sum_by fresh l.marks
