-- Why a plan has no box.
use Rattle.std.specs.Prelude.{ℕ, Result, Ok, Err, Option, Some, None}
use Rattle.stp_base.specs.declared.ids.StepId.{StepId}
use Rattle.stp_refusal.specs.declared.code.Code.TheVariants.{X01, X02, X03, X04, X05}
use Rattle.stp_ground.specs.declared.fault.InstanceFault.{InstanceFault}
use Rattle.stp_ground.specs.declared.fault.InstanceFault.TheVariants.{UnknownAction, WrongCount, UnknownObject, WrongType, NoDuration, Memory}
use Rattle.stp_exec.specs.declared.fault.ExecFault.{ExecFault}
use Rattle.stp_exec.specs.declared.fault.ExecFault.TheVariants as faults
use Rattle.stp_exec.specs.declared.fault.ExecFault.TheVariants.{Step}

abbrev pub step_number : ℕ → StepId
step_number n = record { 0 = n }

-- why a step has no place whose name and arguments choose nothing
abbrev pub choice_fault : StepId → InstanceFault → ExecFault
choice_fault number UnknownAction = Step number X01
choice_fault number WrongCount = Step number X02
choice_fault number UnknownObject = Step number X03
choice_fault number WrongType = Step number X04
choice_fault number NoDuration = Step number X05
choice_fault number Memory = faults.Memory

-- what is read, or the fault that a reason is
abbrev pub or_fault : {A F : Type 0} → (F → ExecFault) → Result A F → Result A ExecFault
or_fault fault_of (Ok x) = Ok x
or_fault fault_of (Err reason) = Err (fault_of reason)

-- a value, unless something is refused
abbrev pub unless : {A : Type 0} → Option ExecFault → A → Result A ExecFault
unless None x = Ok x
unless (Some fault) x = Err fault
