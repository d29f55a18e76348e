-- Times stay below some times that are low, so no sum is too great; a point that is behind moves, and else the edge is met.
use Rattle.std.proofs.Common.{◌≤◌, ◌<◌, ◌+◌, ◌-◌, ◌^◌, pos, false, get_or, length, arith}
use Rattle.stp_network.specs.declared.edge.Edge.{Edge}
use Rattle.stp_network.specs.Demands.{lag, lead}
use Rattle.stp_network.specs.Edges.{constraint_of}
use Rattle.stp_network.proofs.Passing.{low_of, passed_met, passed_moving}
use Rattle.stp_network.proofs.Sizes.{lag_bounded, lead_bounded}
use Rattle.stp_network.proofs.lowest.pass.Goals as goal
use Rattle.stp_network.proofs.lowest.pass.Goals.{then-row-from, else-row-from}

blank : Edge
blank = record { from = 0; to = 0; bound = pos 0; strict = false; next = 0 }

pub overflow_add-asked : goal.overflow_add-asked
unfolding blank
overflow_add-asked c =
    let e : Edge = get_or c.args.edges.now c.loop-edge.edge-index blank in
    let low : get_or c.loop-edge.row e.to 0 ≤ 2 ^ 126 = low_of c.args.grid c.args.edges.now c.loop-edge.row (2 ^ 126) e.to c.loop-edge.invariant.below c.requires.times in
    let small : lag c.args.grid (constraint_of e) ≤ 2 ^ 72 = lag_bounded c.args.grid e c.requires.grid (c.requires.small c.loop-edge.edge-index blank (omega arith)) in
    omega (arith, c.lag_on.ensures)

pub overflow_add-row : goal.overflow_add-row
unfolding blank
overflow_add-row c =
    let e : Edge = get_or c.args.edges.now c.loop-edge.edge-index blank in
    let low : get_or c.loop-edge.row e.from 0 ≤ 2 ^ 126 = low_of c.args.grid c.args.edges.now c.loop-edge.row (2 ^ 126) e.from c.loop-edge.invariant.below c.requires.times in
    let small : lead c.args.grid (constraint_of e) ≤ 2 ^ 72 = lead_bounded c.args.grid e c.requires.grid (c.requires.small c.loop-edge.edge-index blank (omega arith)) in
    omega (arith, c.lead_on-lead.ensures)

pub loop-edge-preserved : goal.loop-edge-preserved
unfolding blank
loop-edge-preserved c =
    let e : Edge = get_or c.args.edges.now c.loop-edge.edge-index blank in
    let at : c.loop-edge.edge-index < length c.args.edges.now = omega arith in
    let inside : e.from < length c.loop-edge.row = omega (arith, c.requires.from c.loop-edge.edge-index blank at) in
    elim c.if-row-from.branch [
      | then-row-from w ↦
          passed_moving c.args.grid c.args.edges.now c.args.row.now c.loop-edge.row c.loop-edge.moved c.loop-edge.edge-index blank c.if-row-from.row c.if-row-from.moved
          (get_or c.loop-edge.row e.to 0 + c.lag_on.result - c.lead_on-lead.result) c.loop-edge.invariant at inside
          (omega (arith, c.lag_on.ensures, c.lead_on-lead.ensures)) (omega (arith, c.lag_on.ensures, c.lead_on-lead.ensures)) w.row-is w.moved-is
      | else-row-from w ↦
          passed_met c.args.grid c.args.edges.now c.args.row.now c.loop-edge.row c.loop-edge.moved c.loop-edge.edge-index blank c.if-row-from.row c.if-row-from.moved
          c.loop-edge.invariant at (omega (arith, c.lag_on.ensures, c.lead_on-lead.ensures)) w.row-is w.moved-is
    ]
