use Rattle.std.proofs.Common.{ap, ◌∙◌, arith, get_or}
use Rattle.stp_kept.specs.Counts.{cut, size_in}
use Rattle.stp_kept.proofs.CutCounts.{bindings_more}
use Rattle.stp_kept.proofs.counting.bindings.Goals as goal

pub loop-kind-preserved : goal.loop-kind-preserved
loop-kind-preserved c =
    let i = c.loop-kind.invariant in
    record {
      low = omega (arith, c.product-count.ensures);
      same = bindings_more (size_in c.args.members.now) c.args.kinds.now c.loop-kind.kind-index c.loop-kind.count c.in_ok-size.size c.product-count.result c.loop-kind-test.true
          (c.in_ok-size.ensures.size ∙ ap (λ m. cut (size_in m (get_or c.args.kinds.now c.loop-kind.kind-index 0))) i.members)
          c.product-count.ensures i.same;
      members = c.in_ok-size.ensures.members ∙ i.members;
    }
