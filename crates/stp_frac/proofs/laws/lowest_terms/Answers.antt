use Rattle.stp_frac.proofs.Lowest.{there_are_lowest_terms, lowest_terms_are_unique, lowest_terms_are_least}
use Rattle.stp_frac.proofs.laws.lowest_terms.Goals as goal

pub returns-clause-exist : goal.returns-clause-exist
returns-clause-exist c = there_are_lowest_terms

pub returns-clause-unique : goal.returns-clause-unique
returns-clause-unique c = lowest_terms_are_unique

pub returns-clause-least : goal.returns-clause-least
returns-clause-least c = lowest_terms_are_least
