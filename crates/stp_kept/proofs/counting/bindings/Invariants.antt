-- The count so far times that of the types that are left is that of all.
use Rattle.std.proofs.Common.{◌≡◌, ◌*◌, ◌≤◌, drop}
use Rattle.stp_problem.specs.Nodes.{bindings}
use Rattle.stp_kept.specs.Counts.{cut, size_in}
use Rattle.stp_kept.proofs.counting.bindings.Given as goal

abbrev pub invariant-loop-kind : goal.invariant-loop-kind
invariant-loop-kind l = record {
  low : l.count ≤ 10000001;
  same : cut (l.count * bindings (size_in l.fn.members) (drop l.kind-index l.kinds)) ≡ cut (bindings (size_in l.fn.members) l.kinds);
  members : l.members ≡ l.fn.members;
}
