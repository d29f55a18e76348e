use Rattle.std.proofs.Common.{slice_index}
use Rattle.stp_problem.proofs.Members.{quantified_nodes}
use Rattle.stp_problem.proofs.nodes.+expanded_nodes.Goals as goal

pub returns-in-Every : goal.returns-in-Every
returns-in-Every t c = quantified_nodes (slice_index c.args.sizes.now) c.args.cond.now c.in-Every.kinds c.in-Every.body c.sum-in-Every.result c.product.result c.bindings.result c.expanded_nodes-each.result c.in-Every.is c.sum-in-Every.ensures c.product.ensures c.bindings.ensures c.expanded_nodes-each.ensures
