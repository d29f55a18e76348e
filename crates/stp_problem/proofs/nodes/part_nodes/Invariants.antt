use Rattle.std.proofs.Common.{◌≡◌, ◌+◌, ◌≤◌, drop, slice_index}
use Rattle.stp_schema.specs.Formula.{formula}
use Rattle.stp_problem.specs.Nodes.{nodes_of_parts, cut}
use Rattle.stp_problem.proofs.Members.{nodes_of_each}
use Rattle.stp_problem.proofs.nodes.part_nodes.Given as goal

abbrev pub invariant-loop-member : goal.invariant-loop-member
invariant-loop-member l = record {
  low : l.count ≤ 10001;
  same : cut (l.count + nodes_of_each (slice_index l.sizes) (drop l.member-index l.member-items)) ≡ cut (nodes_of_parts (slice_index l.sizes) (formula l.cond));
}
