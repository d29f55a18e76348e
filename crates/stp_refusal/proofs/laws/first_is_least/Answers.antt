use Rattle.stp_refusal.proofs.Least.{first_is_least, one_is_chosen}
use Rattle.stp_refusal.proofs.laws.first_is_least.Goals as goal

pub returns-clause-least : goal.returns-clause-least
returns-clause-least c = first_is_least

pub returns-clause-chosen : goal.returns-clause-chosen
returns-clause-chosen c = one_is_chosen
