-- The marked origin is forced, and each point that is looked at comes after it from then on.
use Rattle.std.proofs.Common.{◌≢◌, inl, inr}
use Rattle.stp_network.specs.declared.propagation.Step.TheVariants.{Cycle}
use Rattle.stp_network.proofs.Following.{IsStepping, Joins, goes_on, stepped, followed_origin}
use Rattle.stp_network.proofs.propagation.Propagation.follow_origin.Goals as goal
use Rattle.stp_network.proofs.propagation.Propagation.follow_origin.Goals.{in-Met, in-Raised}

pub raise-requires-clause-forced : goal.raise-requires-clause-forced
raise-requires-clause-forced c = c.loop-point.invariant.steps.way.forced 0 c.loop-point.invariant.steps.marked

pub loop-point-preserved : goal.loop-point-preserved
loop-point-preserved c =
    let ways : Joins c.loop-point.step c.raise.result c.match-raise.step =
    elim c.match-raise.branch [ in-Met w ↦ inl (w.in-Met.is, w.step-is) | in-Raised w ↦ inr (w.in-Raised.is, w.step-is) ] in
    let goes : c.raise.result ≢ Cycle = goes_on c.loop-point.step c.raise.result c.match-raise.step ways in
    let steps : IsStepping c.args.self.now c.args.work.now c.args.marks.now 0 c.raise.new.work c.raise.new.marks c.match-raise.step =
    stepped c.args.self.now c.args.work.now c.args.marks.now 0 c.loop-point.work c.loop-point.marks c.loop-point.step
    c.raise.new.work c.raise.new.marks c.raise.result c.match-raise.step
    c.loop-point.invariant.steps c.raise.ensures.way c.raise.ensures.up c.raise.ensures.same c.raise.ensures.marks c.raise.ensures.still c.raise.ensures.sum ways in
    followed_origin c.args.self.now c.args.work.now c.args.marks.now c.loop-point.work c.loop-point.marks c.loop-point.step c.loop-point.point
    c.raise.new.work c.raise.new.marks c.match-raise.step c.loop-point.invariant steps c.raise.ensures.up c.raise.ensures.same (c.raise.ensures.met goes)
