use Rattle.stp_happen.proofs.FaultLists.{first_fault_is_free_of_order}
use Rattle.stp_happen.proofs.laws.first_fault_is_free_of_order.Goals as goal

pub returns : goal.returns
returns c = first_fault_is_free_of_order
