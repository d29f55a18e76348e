use Rattle.stp_network.proofs.Following.{IsFollowing}
use Rattle.stp_network.proofs.propagation.Propagation.follow_edges.Given as goal

abbrev pub invariant-loop-link : goal.invariant-loop-link
invariant-loop-link l = IsFollowing l.self l.fn.work l.fn.marks l.point l.work l.marks l.step l.link

abbrev pub decreases-loop-link : goal.decreases-loop-link
decreases-loop-link l = l.link
