use Rattle.std.proofs.Common.{◌≡◌, ℕ, ◌<◌, length, slice_index, vec_len}
use Rattle.stp_problem.specs.Passing.{AreLeft, come_to}
use Rattle.stp_problem.proofs.counting.sizes.Given as goal

abbrev pub invariant-loop-rung : goal.invariant-loop-rung
invariant-loop-rung l = record {
  left : AreLeft l.ancestries l.left.items;
  len : length l.sizes.items ≡ length l.ancestries;
  counts : (k : ℕ) → k < length l.ancestries → slice_index l.sizes.items k ≡ come_to l.ancestries l.objects l.left.items k;
}

abbrev pub decreases-loop-rung : goal.decreases-loop-rung
decreases-loop-rung l = vec_len l.left
