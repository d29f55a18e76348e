use Rattle.std.proofs.Common.{◌↔◌, IfOk, subst}
use Rattle.stp_happen.specs.declared.fault.Fault.{Fault}
use Rattle.stp_happen.specs.Boxes.{run_under}
use Rattle.stp_happen.specs.Faults.{IsFirstFault}
use Rattle.stp_happen.specs.Runs.{plain_run}
use Rattle.stp_happen.proofs.run_at.run_at.Goals as goal

-- the box of owners is the box
pub returns-clause-first_fault : goal.returns-clause-first_fault
returns-clause-first_fault c =
    subst (λ b. IfOk c.run_by_owners.result (λ r. (f : Fault) → IsFirstFault (plain_run r) f ↔ IsFirstFault (run_under b c.args.vector.now) f)) c.in_ok-owned.ensures.same c.run_by_owners.ensures.first_fault
