use Rattle.stp_exec.proofs.PlacedSteps.{placed_steps_are_plans}
use Rattle.stp_exec.proofs.laws.placed_steps_are_plans.Goals as goal

pub returns : goal.returns
returns c = placed_steps_are_plans
