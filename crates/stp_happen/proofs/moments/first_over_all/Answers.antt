use Rattle.std.proofs.Common.{arith}
use Rattle.stp_cond.specs.Truth.{state_of_row}
use Rattle.stp_happen.specs.Faults.{over_all_in}
use Rattle.stp_happen.specs.Views.{span_of}
use Rattle.stp_happen.proofs.FirstSteps.{step_at}
use Rattle.stp_happen.proofs.moments.first_over_all.Goals as goal

pub loop-span-preserved : goal.loop-span-preserved
loop-span-preserved c = step_at (over_all_in (state_of_row c.args.row.now) c.args.time) span_of c.args.best c.args.spans.now c.loop-span.span-index _ (omega arith) c.loop-span.best c.over_all.result c.sooner-best.result c.loop-span.invariant c.over_all.ensures c.sooner-best.ensures
