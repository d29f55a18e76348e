-- The nodes so far, and those of the footprints that are left, are all.
use Rattle.std.proofs.Common.{◌≡◌, ◌+◌, ◌≤◌, length, drop}
use Rattle.std.specs.List.{sum_by}
use Rattle.stp_expand.specs.Views.{footprints_of}
use Rattle.stp_rewrite.specs.Counts.{closed_nodes, cut, set_nodes}
use Rattle.stp_rewrite.proofs.counting.set_nodes.Given as goal

abbrev pub invariant-loop-footprint : goal.invariant-loop-footprint
invariant-loop-footprint l = record {
  low : l.count ≤ 10000001;
  so_far : cut (l.count + sum_by (λ p. closed_nodes (length p.opened)) (footprints_of (drop l.footprint-index l.set))) ≡ cut (set_nodes l.each (footprints_of l.set));
}
