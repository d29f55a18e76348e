-- A marked point is forced, and each edge that is looked at is met from then on.
use Rattle.std.proofs.Common.{◌≢◌, ◌+◌, ◌-◌, ◌≤◌, pos, false, get_or, inl, inr, arith}
use Rattle.stp_network.specs.declared.edge.Edge.{Edge}
use Rattle.stp_network.specs.declared.propagation.Step.TheVariants.{Cycle}
use Rattle.stp_network.specs.Edges.{lag_of, lead_of}
use Rattle.stp_network.proofs.Following.{IsStepping, Joins, goes_on, stepped, followed}
use Rattle.stp_network.proofs.propagation.Propagation.follow_edges.Goals as goal
use Rattle.stp_network.proofs.propagation.Propagation.follow_edges.Goals.{in-Met, in-Raised}

pub raise-requires-clause-forced : goal.raise-requires-clause-forced
raise-requires-clause-forced c = c.loop-link.invariant.steps.way.forced c.args.point c.loop-link.invariant.steps.marked

pub loop-link-preserved : goal.loop-link-preserved
loop-link-preserved c =
    let blank : Edge = record { from = 0; to = 0; bound = pos 0; strict = false; next = 0 } in
    let ways : Joins c.loop-link.step c.raise.result c.match-raise.step =
    elim c.match-raise.branch [ in-Met w ↦ inl (w.in-Met.is, w.step-is) | in-Raised w ↦ inr (w.in-Raised.is, w.step-is) ] in
    let goes : c.raise.result ≢ Cycle = goes_on c.loop-link.step c.raise.result c.match-raise.step ways in
    let steps : IsStepping c.args.self.now c.args.work.now c.args.marks.now c.args.point c.raise.new.work c.raise.new.marks c.match-raise.step =
    stepped c.args.self.now c.args.work.now c.args.marks.now c.args.point c.loop-link.work c.loop-link.marks c.loop-link.step
    c.raise.new.work c.raise.new.marks c.raise.result c.match-raise.step
    c.loop-link.invariant.steps c.raise.ensures.way c.raise.ensures.up c.raise.ensures.same c.raise.ensures.marks c.raise.ensures.still c.raise.ensures.sum ways in
    let e : Edge = get_or c.args.self.now.edges.now (c.loop-link.link - 1) blank in
    let asked : get_or c.raise.new.work c.args.point 0 + lag_of e ≤ get_or c.raise.new.work e.from 0 + lead_of e =
    omega (arith, c.raise.ensures.met goes, c.lag_on-lag.ensures, c.lead_on-lead.ensures) in
    followed c.args.self.now c.args.work.now c.args.marks.now c.args.point c.loop-link.work c.loop-link.marks c.loop-link.step c.loop-link.link blank
    c.raise.new.work c.raise.new.marks c.match-raise.step c.requires.set c.loop-link.invariant (omega arith) steps c.raise.ensures.up c.raise.ensures.same asked
