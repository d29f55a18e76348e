use Rattle.std.proofs.Common.{◌≡◌, ℕ, ◌<◌, []}
use Rattle.stp_types.specs.Making.{AreRight, IsDone}
use Rattle.stp_types.proofs.rows.ancestries.Given as goal

abbrev pub invariant-loop-start : goal.invariant-loop-start
invariant-loop-start l = record {
  right : AreRight l.parents l.rows.items;
  done : (k : ℕ) → k < l.start → IsDone l.rows.items k;
  empty : l.path.items ≡ [];
}
