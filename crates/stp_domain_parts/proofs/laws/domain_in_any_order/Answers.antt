use Rattle.stp_domain_parts.proofs.Sections.{part_is_first, actions_in_order, one_by_one}
use Rattle.stp_domain_parts.proofs.laws.domain_in_any_order.Goals as goal

pub returns-clause-parts : goal.returns-clause-parts
returns-clause-parts c = part_is_first

pub returns-clause-actions : goal.returns-clause-actions
returns-clause-actions c = actions_in_order

pub returns-clause-offences : goal.returns-clause-offences
returns-clause-offences c = one_by_one
