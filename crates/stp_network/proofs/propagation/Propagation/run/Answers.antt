-- A cycle in a round is one of the run; each round that moves a point makes the sum of the times greater, and they are capped.
use Rattle.std.proofs.Common.{◌≡◌, ◌≤◌, ◌+◌, ◌*◌, length, sum, refl, ap, arith}
use Rattle.stp_network.specs.Propagation.{rise_of}
use Rattle.stp_network.specs.Raising.{shortfall}
use Rattle.stp_network.proofs.Settling.{sum_capped}
use Rattle.stp_network.proofs.propagation.Propagation.run.Goals as goal

pub returns-in-Cycle-clause-none : goal.returns-in-Cycle-clause-none
returns-in-Cycle-clause-none c = λ same. c.in-Cycle.ensures.cycle refl

pub loop-smaller : goal.loop-smaller
loop-smaller c =
    let times = c.args.self.now.times.now in
    let most : sum c.round.new.work ≤ sum times + length times * shortfall times c.args.self.now.fresh.now =
    sum_capped c.round.new.work times (shortfall times c.args.self.now.fresh.now) c.round.ensures.way.count c.round.ensures.way.capped in
    let rise : rise_of c.round.result ≡ 1 = ap rise_of c.in-Raised.is in
    omega (arith, c.round.ensures.sum)
