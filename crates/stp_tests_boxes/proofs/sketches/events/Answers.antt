use Rattle.std.proofs.Common.{arith}
use Rattle.stp_tests_boxes.proofs.sketches.events.Goals as goal
use Rattle.stp_tests_boxes.proofs.sketches.events.Goals.{then-happening+in_ok-event+in_ok-push_after, else-happening}

pub loop-happening-preserved : goal.loop-happening-preserved
loop-happening-preserved c = elim c.if-happening.branch [
  | then-happening+in_ok-event+in_ok-push_after w ↦ rw w.events-is (record {
    in_range = w.in_ok-push_after.ensures.in_range w.in_ok-event.ensures c.loop-happening.invariant.in_range;
    ordered = w.in_ok-push_after.ensures.ordered c.loop-happening.invariant.ordered;
    few = omega (arith, w.in_ok-push_after.ensures.few, c.loop-happening.invariant.few);
  })
  | else-happening w ↦ rw w.events-is (record { in_range = c.loop-happening.invariant.in_range; ordered = c.loop-happening.invariant.ordered; few = omega (arith, c.loop-happening.invariant.few) })
]
