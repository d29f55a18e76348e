use Rattle.std.proofs.Common.{[], arith}
use Rattle.stp_problem.proofs.Counts.{counted_few}
use Rattle.stp_problem.proofs.counting.exact_sizes.Goals as goal

pub overflow_add-index_mut : goal.overflow_add-index_mut
overflow_add-index_mut c =
    let i = c.loop-object.invariant in
    let here = c.requires.kinds c.loop-object.object-index (record { name = record { ref_ptr = (0, 0); now = [] }; kind = 0 }) c.loop-object-test.true in
    let few = counted_few (λ o. o.kind) c.loop-object.sizes.items c.args.objects.now c.loop-object.object-index (omega arith) i.each c.index_mut.result.now _ (omega (arith, here, i.len)) c.index_mut.ensures.value in
    omega (arith, few, c.requires.small)
