-- The nodes so far, and those of the parts that are left, are all.
use Rattle.std.proofs.Common.{◌≡◌, ◌+◌, ◌≤◌, drop}
use Rattle.std.specs.List.{sum_by}
use Rattle.stp_cond.specs.Formulas.{view}
use Rattle.stp_rewrite.specs.Counts.{cut, nodes_in}
use Rattle.stp_rewrite.proofs.counting.+nodes.Given as goal

abbrev pub invariant-loop-part : goal.invariant-loop-part
invariant-loop-part l = record {
  low : l.count ≤ 10000001;
  so_far : cut (l.count + sum_by (λ c. nodes_in (view c)) (drop l.part-index l.part-items)) ≡ cut (nodes_in (view l.cond));
}
