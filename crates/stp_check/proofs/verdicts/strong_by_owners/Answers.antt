use Rattle.stp_happen.specs.OwnedViews.{plain_owned}
use Rattle.stp_check.proofs.Judged.{verdict_tells}
use Rattle.stp_check.specs.declared.verdicts.Verdict.TheVariants.{Weak}
use Rattle.stp_check.proofs.verdicts.strong_by_owners.Goals as goal

pub returns-in-Some-clause-exactly : goal.returns-in-Some-clause-exactly
returns-in-Some-clause-exactly c = verdict_tells (plain_owned c.args.boxed.now) (Weak c.in-Some.durations) (rw c.in-Some.is at c.in_ok-durations.ensures)
