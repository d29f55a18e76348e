use Rattle.std.proofs.Common.{◌≡◌, ◌*◌, ◌≤◌, drop, slice_index}
use Rattle.stp_problem.specs.Nodes.{bindings, cut}
use Rattle.stp_problem.proofs.cutting.bindings.Given as goal

abbrev pub invariant-loop-kind : goal.invariant-loop-kind
invariant-loop-kind l = record {
  low : l.count ≤ 10001;
  same : cut (l.count * bindings (slice_index l.sizes) (drop l.kind-index l.kinds)) ≡ cut (bindings (slice_index l.sizes) l.kinds);
}
