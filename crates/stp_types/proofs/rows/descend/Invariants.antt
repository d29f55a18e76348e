use Rattle.std.proofs.Common.{ℕ, vec_len}
use Rattle.stp_types.specs.Making.{AreRight, IsPath, IsDone}
use Rattle.stp_types.proofs.rows.descend.Given as goal

abbrev pub invariant-loop-kind : goal.invariant-loop-kind
invariant-loop-kind l = record {
  right : AreRight l.parents l.rows;
  path : IsPath l.parents l.start l.rows l.path.items;
  kept : (k : ℕ) → IsDone l.fn.rows k → IsDone l.rows k;
}

abbrev pub decreases-loop-kind : goal.decreases-loop-kind
decreases-loop-kind l = vec_len l.path
