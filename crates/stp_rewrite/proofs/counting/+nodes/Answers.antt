use Rattle.std.proofs.Common.{arith, inl, inr}
use Rattle.stp_rewrite.proofs.Cut.{and_nodes, or_nodes}
use Rattle.stp_rewrite.proofs.counting.+nodes.Goals as goal

pub loop-part-init : goal.loop-part-init
loop-part-init t c = record {
  low = omega arith;
  so_far = elim c.in-And.is [
    | inl is ↦ and_nodes c.args.cond.now c.in-And.parts is
    | inr is ↦ or_nodes c.args.cond.now c.in-And.parts is
  ];
}
