use Rattle.stp_frac.proofs.Counts.{counts_are_exact, counts_come_back, counts_keep_order}
use Rattle.stp_frac.proofs.laws.counts.Goals as goal

pub returns-clause-exact : goal.returns-clause-exact
returns-clause-exact c = counts_are_exact

pub returns-clause-back : goal.returns-clause-back
returns-clause-back c = counts_come_back

pub returns-clause-order : goal.returns-clause-order
returns-clause-order c = counts_keep_order
