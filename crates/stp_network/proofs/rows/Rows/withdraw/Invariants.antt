use Rattle.std.proofs.Common.{length, vec_capacity}
use Rattle.stp_network.proofs.Withdrawing.{IsWithdrawing}
use Rattle.stp_network.proofs.rows.Rows.withdraw.Given as goal

abbrev pub invariant-loop-self : goal.invariant-loop-self
invariant-loop-self l = IsWithdrawing l.fn.self l.self l.fn.edges.items l.edges.items (vec_capacity l.fn.edges) (vec_capacity l.edges) l.count

abbrev pub decreases-loop-self : goal.decreases-loop-self
decreases-loop-self l = length l.edges.items
