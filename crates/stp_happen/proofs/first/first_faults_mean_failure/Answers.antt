use Rattle.stp_happen.proofs.FirstFaults.{first_faults_mean_failure}
use Rattle.stp_happen.proofs.first.first_faults_mean_failure.Goals as goal

pub returns : goal.returns
returns c = first_faults_mean_failure
