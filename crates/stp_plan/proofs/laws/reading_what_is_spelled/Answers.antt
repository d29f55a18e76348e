use Rattle.stp_plan.proofs.Spelling.{spelled_parts, spelled_step}
use Rattle.stp_plan.proofs.laws.reading_what_is_spelled.Goals as goal

pub returns-clause-parts : goal.returns-clause-parts
returns-clause-parts c = spelled_parts

pub returns-clause-steps : goal.returns-clause-steps
returns-clause-steps c = spelled_step
