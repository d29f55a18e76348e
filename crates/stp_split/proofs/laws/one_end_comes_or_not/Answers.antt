use Rattle.stp_split.proofs.Splitting.{both_cases_are_all, stayed_cases_fail, come_cases_fail}
use Rattle.stp_split.proofs.laws.one_end_comes_or_not.Goals as goal

pub returns-clause-always : goal.returns-clause-always
returns-clause-always c = both_cases_are_all

pub returns-clause-stayed : goal.returns-clause-stayed
returns-clause-stayed c = stayed_cases_fail

pub returns-clause-come : goal.returns-clause-come
returns-clause-come c = come_cases_fail
