use Rattle.stp_network.proofs.Settling.{IsRound}
use Rattle.stp_network.proofs.propagation.Propagation.round.Given as goal

abbrev pub invariant-loop-point : goal.invariant-loop-point
invariant-loop-point l = IsRound l.self l.fn.work l.work l.marks l.step l.point
