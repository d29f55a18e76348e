use Rattle.std.proofs.Common.{◌≡◌, ◌≢◌, ℕ, ◌<◌, ◌-◌, length, slice_index}
use Rattle.stp_types.specs.Forest.{above}
use Rattle.stp_types.proofs.rows.climb.Given as goal

abbrev pub invariant-loop-at : goal.invariant-loop-at
invariant-loop-at l = record {
  steps : (n : ℕ) → n < length l.path.items → slice_index l.path.items n ≡ above l.parents n l.start;
  children : (n : ℕ) → n < length l.path.items → above l.parents n l.start ≢ 0;
  here : l.at ≡ above l.parents (length l.path.items) l.start;
}

abbrev pub decreases-loop-at : goal.decreases-loop-at
decreases-loop-at l = length l.parents - length l.path.items
