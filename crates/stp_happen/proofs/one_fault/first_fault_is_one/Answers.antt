use Rattle.stp_happen.proofs.OneFault.{first_fault_is_one}
use Rattle.stp_happen.proofs.one_fault.first_fault_is_one.Goals as goal

pub returns : goal.returns
returns c = first_fault_is_one
