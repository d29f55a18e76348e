use Rattle.std.proofs.Common.{◌+◌, ◌*◌, ◌-◌, length, sum}
use Rattle.stp_network.specs.Raising.{shortfall}
use Rattle.stp_network.proofs.Settling.{IsRun}
use Rattle.stp_network.proofs.propagation.Propagation.run.Given as goal

abbrev pub invariant-loop : goal.invariant-loop
invariant-loop l = IsRun l.self l.work l.marks

abbrev pub decreases-loop : goal.decreases-loop
decreases-loop l = sum l.self.times.now + length l.self.times.now * shortfall l.self.times.now l.self.fresh.now - sum l.work
