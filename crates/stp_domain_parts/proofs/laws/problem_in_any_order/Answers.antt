use Rattle.stp_domain_parts.proofs.ProblemSections.{section_is_first, one_by_one}
use Rattle.stp_domain_parts.proofs.laws.problem_in_any_order.Goals as goal

pub returns-clause-sections : goal.returns-clause-sections
returns-clause-sections c = section_is_first

pub returns-clause-offences : goal.returns-clause-offences
returns-clause-offences c = one_by_one
