-- The nodes so far, and those of what is left, are those of all.
use Rattle.std.proofs.Common.{◌≡◌, ◌+◌, ◌≤◌, drop}
use Rattle.std.specs.List.{sum_by}
use Rattle.stp_schema.specs.Formula.{formula}
use Rattle.stp_problem.specs.Nodes.{nodes}
use Rattle.stp_kept.specs.Counts.{cut, size_in}
use Rattle.stp_kept.proofs.counting.+nodes.Given as goal

abbrev pub invariant-nodes_of_all-loop-cond : goal.invariant-nodes_of_all-loop-cond
invariant-nodes_of_all-loop-cond l = record {
  low : l.count ≤ 10000001;
  same : cut (l.count + sum_by (λ c. nodes (size_in l.fn.members) (formula c)) (drop l.cond-index l.conds)) ≡ cut (sum_by (λ c. nodes (size_in l.fn.members) (formula c)) l.conds);
  members : l.members ≡ l.fn.members;
}
