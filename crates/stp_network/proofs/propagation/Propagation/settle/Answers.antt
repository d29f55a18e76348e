-- All that the point asks is met, so its mark may go.
use Rattle.stp_network.proofs.Settling.{unmarked}
use Rattle.stp_network.proofs.propagation.Propagation.settle.Goals as goal

pub returns-clause-way : goal.returns-clause-way
returns-clause-way c =
    unmarked c.args.self.now.edges.now c.args.self.now.times.now c.args.self.now.fresh.now c.follow-step.new.work c.follow-step.new.marks c.args.point
    c.follow-step.ensures.way c.requires.point (c.follow-step.ensures.met c.in_default.not-Cycle) (c.follow-step.ensures.origin c.in_default.not-Cycle)
