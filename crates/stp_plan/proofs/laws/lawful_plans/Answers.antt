use Rattle.stp_plan.proofs.Lawful.{read_plans_are_lawful}
use Rattle.stp_plan.proofs.laws.lawful_plans.Goals as goal

pub returns : goal.returns
returns c = read_plans_are_lawful
