-- The lines so far, and those of the steps that are left, are all lines.
use Rattle.std.proofs.Common.{◌≡◌, ◌++◌, map, drop}
use Rattle.stp_plan.specs.Printing.{plan_text}
use Rattle.stp_plan.specs.Views.{plain_step, plain_plan}
use Rattle.stp_plan.proofs.print.print_plan.Given as goal

abbrev pub invariant-loop-step : goal.invariant-loop-step
invariant-loop-step l = l.text ++ plan_text (map plain_step (drop l.step-index l.step-items)) ≡ plan_text (plain_plan l.plan)
