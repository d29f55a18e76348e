-- The nodes so far, and those of what is left, are those of all.
use Rattle.std.proofs.Common.{◌≡◌, ◌+◌, ◌≤◌, drop}
use Rattle.stp_kept.specs.Counts.{nodes_of_instances, cut}
use Rattle.stp_kept.specs.Views.{instance_views}
use Rattle.stp_kept.proofs.counting.count_nodes.Given as goal

abbrev pub invariant-loop-instance : goal.invariant-loop-instance
invariant-loop-instance l = record {
  low : l.count ≤ 10000001;
  same : cut (l.count + nodes_of_instances l.fn.members (instance_views (drop l.instance-index l.instances))) ≡ cut (nodes_of_instances l.fn.members (instance_views l.instances));
  members : l.members ≡ l.fn.members;
}
