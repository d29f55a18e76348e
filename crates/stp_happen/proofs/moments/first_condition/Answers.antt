use Rattle.std.proofs.Common.{arith}
use Rattle.stp_cond.specs.Truth.{state_of_row}
use Rattle.stp_happen.specs.Faults.{condition_in}
use Rattle.stp_happen.specs.Views.{entry_of}
use Rattle.stp_happen.proofs.FirstSteps.{step_with}
use Rattle.stp_happen.proofs.moments.first_condition.Goals as goal

pub loop-entry-preserved : goal.loop-entry-preserved
loop-entry-preserved c = step_with (condition_in (state_of_row c.args.row.now)) entry_of c.args.best c.args.moment.now c.loop-entry.entry-index c.entry-item.result (omega arith) c.entry-item.is c.loop-entry.best c.condition.result c.sooner-best.result c.loop-entry.invariant c.condition.ensures c.sooner-best.ensures
