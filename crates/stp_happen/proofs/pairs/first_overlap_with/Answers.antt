use Rattle.std.proofs.Common.{arith}
use Rattle.stp_happen.specs.Faults.{overlap_of}
use Rattle.stp_happen.specs.Views.{span_of}
use Rattle.stp_happen.proofs.FirstSteps.{step_at}
use Rattle.stp_happen.proofs.pairs.first_overlap_with.Goals as goal

pub loop-other-preserved : goal.loop-other-preserved
loop-other-preserved c = step_at (overlap_of (span_of c.args.one.now)) span_of c.args.best c.args.spans.now c.loop-other.other-index _ (omega arith) c.loop-other.best c.overlap.result c.sooner-best.result c.loop-other.invariant c.overlap.ensures c.sooner-best.ensures
