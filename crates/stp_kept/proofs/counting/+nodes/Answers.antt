use Rattle.std.proofs.Common.{ap, ◌∙◌, inl, inr}
use Rattle.stp_problem.specs.Nodes.{bindings}
use Rattle.stp_kept.specs.Counts.{cut, size_in}
use Rattle.stp_kept.proofs.CutCounts.{and_nodes, or_nodes, every_nodes, any_nodes}
use Rattle.stp_kept.proofs.counting.+nodes.Goals as goal

pub nodes-returns-in_ok-count-in-Every-clause-count : goal.nodes-returns-in_ok-count-in-Every-clause-count
nodes-returns-in_ok-count-in-Every-clause-count t c =
    let size = size_in c.args.members.now in
    let count = c.in_ok-count-in-Every.ensures.count ∙ ap (λ m. cut (bindings (size_in m) c.in-Every.kinds.now)) c.in_ok-each-in-Every.ensures.members in
    elim c.in-Every.is [
      | inl is ↦ every_nodes size c.args.cond.now c.in-Every.kinds c.in-Every.body c.sum-in-Every.result c.product.result c.in_ok-count-in-Every.count c.in_ok-each-in-Every.each is c.sum-in-Every.ensures c.product.ensures count c.in_ok-each-in-Every.ensures.count
      | inr is ↦ any_nodes size c.args.cond.now c.in-Every.kinds c.in-Every.body c.sum-in-Every.result c.product.result c.in_ok-count-in-Every.count c.in_ok-each-in-Every.each is c.sum-in-Every.ensures c.product.ensures count c.in_ok-each-in-Every.ensures.count
    ]

pub nodes-returns-in_ok-inside-in-And-clause-count : goal.nodes-returns-in_ok-inside-in-And-clause-count
nodes-returns-in_ok-inside-in-And-clause-count t c =
    let size = size_in c.args.members.now in
    elim c.in-And.is [
      | inl is ↦ and_nodes size c.args.cond.now c.in-And.parts c.in_ok-inside-in-And.inside c.sum-in-And.result is c.in_ok-inside-in-And.ensures.count c.sum-in-And.ensures
      | inr is ↦ or_nodes size c.args.cond.now c.in-And.parts c.in_ok-inside-in-And.inside c.sum-in-And.result is c.in_ok-inside-in-And.ensures.count c.sum-in-And.ensures
    ]
