-- The nodes so far, and those of the parts that are left, are all; no part that is left has too many footprints.
use Rattle.std.proofs.Common.{◌≡◌, ◌+◌, ◌≤◌, false, drop}
use Rattle.std.specs.List.{list_any, sum_by}
use Rattle.stp_cond.specs.Formulas.{view}
use Rattle.stp_expand.specs.Footprints.{has_too_many}
use Rattle.stp_expand.specs.Views.{footprints_of}
use Rattle.stp_rewrite.specs.Counts.{cut, expanded_nodes}
use Rattle.stp_rewrite.proofs.counting.+expanded_nodes.Given as goal

abbrev pub invariant-loop-part : goal.invariant-loop-part
invariant-loop-part l = record {
  low : l.count ≤ 10000001;
  few : list_any (λ c. has_too_many (footprints_of l.ends) (view c)) (drop l.part-index l.part-items) ≡ false;
  so_far : cut (l.count + sum_by (λ c. expanded_nodes (footprints_of l.ends) (view c)) (drop l.part-index l.part-items)) ≡ cut (expanded_nodes (footprints_of l.ends) (view l.cond));
}
