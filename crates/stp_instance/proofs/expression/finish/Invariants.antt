-- What is left to do with the value so far gives what was to be done with the first.
use Rattle.std.proofs.Common.{◌≡◌, Some, length, option_map}
use Rattle.stp_frac.specs.Fractions.{value_of}
use Rattle.stp_instance.specs.Operators.{finished}
use Rattle.stp_instance.proofs.expression.finish.Given as goal

abbrev pub invariant-loop-step : goal.invariant-loop-step
invariant-loop-step l = finished l.steps.items (Some (value_of l.value)) ≡ finished l.fn.steps.items (option_map value_of l.fn.first)

abbrev pub decreases-loop-step : goal.decreases-loop-step
decreases-loop-step l = length l.steps.items
