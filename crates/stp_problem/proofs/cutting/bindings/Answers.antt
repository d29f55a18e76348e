use Rattle.std.proofs.Common.{◌*◌, ap, ◌∙◌, arith, slice_index}
use Rattle.stp_problem.specs.Nodes.{cut}
use Rattle.stp_problem.proofs.Cuts.{bindings_more}
use Rattle.stp_problem.proofs.cutting.bindings.Goals as goal

pub loop-kind-preserved : goal.loop-kind-preserved
loop-kind-preserved c =
    let i = c.loop-kind.invariant in
    record {
      low = omega (arith, c.product-count.ensures);
      same = bindings_more (slice_index c.args.sizes.now) c.args.kinds.now c.loop-kind.kind-index c.loop-kind.count c.product-count.result c.loop-kind-test.true
          (c.product-count.ensures ∙ ap (λ x. cut (c.loop-kind.count * x)) (c.cut.ensures ∙ ap cut c.size_of.ensures))
          i.same;
    }
