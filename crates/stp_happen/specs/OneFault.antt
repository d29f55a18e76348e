-- A run has one first fault at most.
use Rattle.std.specs.Prelude.{◌≡◌}
use Rattle.stp_happen.specs.declared.fault.Fault.{Fault}
use Rattle.stp_happen.specs.Faults.{IsFirstFault}
use Rattle.stp_happen.specs.Plain.{PlainRun}

abbrev pub FirstFaultIsOne : Type 0
FirstFaultIsOne = (run : PlainRun) (one other : Fault) → IsFirstFault run one → IsFirstFault run other → one ≡ other
