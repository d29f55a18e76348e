use Rattle.std.proofs.Common.{◌≡◌, ℕ, ◌<◌, ◌⊎◌, true, false, length, slice_index_or}
use Rattle.std.specs.List.{sum_by}
use Rattle.stp_types.specs.Forest.{parent_of, IsBelow}
use Rattle.stp_types.proofs.Counts.{unmarked}
use Rattle.stp_types.proofs.loops.circle.Given as goal

abbrev pub invariant-loop-looped : goal.invariant-loop-looped
invariant-loop-looped l = record {
  len : length l.looped ≡ length l.parents;
  within : l.at < length l.parents;
  here : IsBelow l.parents l.start l.at;
  kept : (k : ℕ) → k < length l.parents → slice_index_or l.fn.looped k false ≡ true → slice_index_or l.looped k false ≡ true;
  marked : (k : ℕ) → k < length l.parents → slice_index_or l.looped k false ≡ true → (slice_index_or l.fn.looped k false ≡ true) ⊎ IsBelow l.parents l.start k;
  closed : (k : ℕ) → k < length l.parents → slice_index_or l.looped k false ≡ true → (parent_of l.parents k ≡ l.at) ⊎ (slice_index_or l.looped (parent_of l.parents k) false ≡ true);
  begun : (l.start ≡ l.at) ⊎ (slice_index_or l.looped l.start false ≡ true);
}

abbrev pub decreases-loop-looped : goal.decreases-loop-looped
decreases-loop-looped l = sum_by unmarked l.looped
