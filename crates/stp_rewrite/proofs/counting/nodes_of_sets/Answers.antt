use Rattle.std.proofs.Common.{◌<◌, ◌-◌, ◌^◌, length, subst, arith}
use Rattle.stp_expand.specs.Views.{footprints_of}
use Rattle.stp_rewrite.specs.Counts.{cut, nodes_from}
use Rattle.stp_rewrite.proofs.Cut.{set_next}
use Rattle.stp_rewrite.proofs.counting.nodes_of_sets.Goals as goal

pub loop-number-preserved : goal.loop-number-preserved
loop-number-preserved c =
    let ps = footprints_of c.args.footprints.now in
    let end = 2 ^ length c.args.footprints.now in
    let below : c.loop-number.number < end = subst (λ m. c.loop-number.number < m) c.sets_of-number-end.ensures c.loop-number-test.true in
    record {
      low = omega (arith, c.sum-count.ensures);
      so_far = set_next c.args.each ps c.loop-number.number end c.loop-number.count c.in_ok-one.one c.sum-count.result (cut (nodes_from c.args.each ps 1 (end - 1))) below c.in_ok-one.ensures c.sum-count.ensures c.loop-number.invariant.so_far;
    }
