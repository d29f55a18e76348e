use Rattle.stp_network.proofs.Passing.{IsPass}
use Rattle.stp_network.proofs.lowest.pass.Given as goal

abbrev pub invariant-loop-edge : goal.invariant-loop-edge
invariant-loop-edge l = IsPass l.grid l.edges l.fn.row l.row l.moved l.edge-index
