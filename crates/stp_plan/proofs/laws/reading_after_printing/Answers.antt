use Rattle.stp_plan.proofs.Printed.{printed_plans_are_read_again}
use Rattle.stp_plan.proofs.laws.reading_after_printing.Goals as goal

pub returns : goal.returns
returns c = printed_plans_are_read_again
