-- The nodes so far, and those of the sets that are left, are all.
use Rattle.std.proofs.Common.{◌≡◌, ◌+◌, ◌-◌, ◌^◌, ◌≤◌, length}
use Rattle.stp_expand.specs.Views.{footprints_of}
use Rattle.stp_rewrite.specs.Counts.{cut, nodes_from}
use Rattle.stp_rewrite.proofs.counting.nodes_of_sets.Given as goal

abbrev pub invariant-loop-number : goal.invariant-loop-number
invariant-loop-number l = record {
  low : l.count ≤ 10000001;
  so_far : cut (l.count + nodes_from l.each (footprints_of l.footprints) l.number (2 ^ length l.footprints - l.number)) ≡ cut (nodes_from l.each (footprints_of l.footprints) 1 (2 ^ length l.footprints - 1));
}
