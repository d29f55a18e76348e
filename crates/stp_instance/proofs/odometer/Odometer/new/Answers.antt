use Rattle.std.proofs.Common.{arith}
use Rattle.stp_instance.specs.Typing.{objects_in}
use Rattle.stp_instance.proofs.Wheels.{all_left}
use Rattle.stp_instance.proofs.odometer.Odometer.new.Goals as goal

pub returns-clause-bindings : goal.returns-clause-bindings
returns-clause-bindings c = all_left (objects_in c.args.members.now) c.args.kinds.now c.loop-kind.wheels.items c.loop-kind.kind-index c.loop-kind.over (omega arith) c.loop-kind.invariant.choices c.loop-kind.invariant.first c.loop-kind.invariant.over
