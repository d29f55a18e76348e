use Rattle.std.proofs.Common.{arith}
use Rattle.stp_happen.specs.Faults.{interference_of}
use Rattle.stp_happen.specs.Views.{entry_of}
use Rattle.stp_happen.proofs.FirstSteps.{step_with}
use Rattle.stp_happen.proofs.pairs.first_interference_with.Goals as goal

pub loop-other-preserved : goal.loop-other-preserved
loop-other-preserved c = step_with (interference_of (entry_of c.args.one.now)) entry_of c.args.best c.args.entries.now c.loop-other.other-index c.other-item.result (omega arith) c.other-item.is c.loop-other.best c.interference.result c.sooner-best.result c.loop-other.invariant c.interference.ensures c.sooner-best.ensures
