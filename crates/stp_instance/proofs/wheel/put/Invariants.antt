-- The objects so far are those of the variables so far.
use Rattle.std.proofs.Common.{◌≡◌, ◌++◌, map, take}
use Rattle.stp_instance.specs.Bindings.{numbers_of}
use Rattle.stp_instance.specs.Turning.{shown}
use Rattle.stp_instance.proofs.wheel.put.Given as goal

abbrev pub invariant-loop-wheel : goal.invariant-loop-wheel
invariant-loop-wheel l = numbers_of l.binding.items ≡ numbers_of l.fn.binding.items ++ map shown (take l.wheel-index l.wheels)
