use Rattle.stp_report.proofs.FaultTimes.{fault_times}
use Rattle.stp_report.proofs.laws.first_faults_have_times.Goals as goal

pub returns : goal.returns
returns c = fault_times
