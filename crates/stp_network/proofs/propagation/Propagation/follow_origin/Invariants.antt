use Rattle.stp_network.proofs.Following.{IsFollowingOrigin}
use Rattle.stp_network.proofs.propagation.Propagation.follow_origin.Given as goal

abbrev pub invariant-loop-point : goal.invariant-loop-point
invariant-loop-point l = IsFollowingOrigin l.self l.fn.work l.fn.marks l.work l.marks l.step l.point
