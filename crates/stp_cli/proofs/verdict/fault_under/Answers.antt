use Rattle.std.proofs.Common.{subst}
use Rattle.stp_report.specs.Bounds.{IsFaultTime}
use Rattle.stp_report.proofs.FaultTimes.{fault_times}
use Rattle.stp_cli.proofs.Verdicts.{weak_times}
use Rattle.stp_cli.proofs.verdict.fault_under.Goals as goal

-- the first fault of the run that was made is the one of the box's run
pub returns-clause-first : goal.returns-clause-first
returns-clause-first c = (c.in_ok-run.ensures.first_fault c.in-Some.fault).0 c.in-Some.ensures.first

pub returns-clause-times : goal.returns-clause-times
returns-clause-times c =
    weak_times c.args.boxed.now c.args.durations.now c.in-Some.fault c.requires.failure.vector
    (subst (λ grid. IsFaultTime grid c.in-Some.fault) c.in_ok-run.ensures.grid (fault_times c.in_ok-run.run' c.in-Some.fault c.in-Some.ensures.first))
