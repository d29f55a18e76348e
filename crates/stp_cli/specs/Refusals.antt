-- Refusals of files, why there is no case, and what is read where there is one.
use Rattle.std.specs.Prelude.{◌≡◌, ℕ, Result, Ok, Err}
use Rattle.stp_text.specs.declared.fault.TextFault.{TextFault}
use Rattle.stp_text.specs.declared.fault.TextFault.TheVariants as texts
use Rattle.stp_refusal.specs.declared.code.Code.{Code}
use Rattle.stp_refusal.specs.declared.code.Code.TheVariants as codes
use Rattle.stp_refusal.specs.declared.phase.ReadFault.{ReadFault}
use Rattle.stp_refusal.specs.declared.phase.ReadFault.TheVariants as reads
use Rattle.stp_plan.specs.declared.fault.PlanFault.{PlanFault}
use Rattle.stp_plan.specs.declared.fault.PlanFault.TheVariants as plans
use Rattle.stp_exec.specs.declared.fault.ExecFault.{ExecFault}
use Rattle.stp_exec.specs.declared.fault.ExecFault.TheVariants as execs
use Rattle.stp_kept.specs.declared.fault.GroundFault.{GroundFault}
use Rattle.stp_kept.specs.declared.fault.GroundFault.TheVariants as grounds
use Rattle.stp_report.specs.declared.answer.Answer.{Answer}
use Rattle.stp_report.specs.declared.answer.Answer.TheVariants as answers
use Rattle.stp_report.specs.declared.answer.FileName.{FileName}
use Rattle.stp_report.specs.declared.answer.FileName.TheVariants as files
use Rattle.stp_cli.specs.declared.refusal.CaseFault.{CaseFault}
use Rattle.stp_cli.specs.declared.refusal.CaseFault.TheVariants.{Refused, Memory}
use Rattle.stp_cli.specs.declared.refusal.Refusal.{Refusal}

abbrev pub refusal : FileName → Code → ℕ → Refusal
refusal file code at = record { file = file; code = code; at = at }

abbrev pub refused_at : FileName → Code → ℕ → CaseFault
refused_at file code at = Refused (refusal file code at)

-- ---- what the faults of readers are to a command

abbrev pub text_fault : FileName → TextFault → CaseFault
text_fault file (texts.BadByte at) = refused_at file codes.T01 at
text_fault file (texts.StrayClose at) = refused_at file codes.T02 at
text_fault file (texts.TooDeep at) = refused_at file codes.T03 at
text_fault file (texts.Unclosed at) = refused_at file codes.T04 at
text_fault file (texts.WordTooLong at) = refused_at file codes.T05 at
text_fault file (texts.NotOneList at) = refused_at file codes.T06 at
text_fault file texts.Memory = Memory

abbrev pub read_fault : FileName → ReadFault → CaseFault
read_fault file (reads.Refused code at) = refused_at file code at
read_fault file reads.Memory = Memory

abbrev pub plan_fault : PlanFault → CaseFault
plan_fault (plans.BadLine line) = refused_at files.Plan codes.L01 line
plan_fault (plans.TooManySteps line) = refused_at files.Plan codes.L02 line
plan_fault plans.Memory = Memory

abbrev pub exec_fault : ExecFault → CaseFault
exec_fault (execs.Step step code) = refused_at files.Plan code step.0
exec_fault execs.GridTooFine = refused_at files.Plan codes.X10 0
exec_fault (execs.TimeTooLarge step) = refused_at files.Plan codes.X11 step.0
exec_fault execs.Memory = Memory

abbrev pub ground_fault : GroundFault → CaseFault
ground_fault grounds.TooManyBindings = refused_at files.Task codes.G01 0
ground_fault grounds.TooManyActions = refused_at files.Task codes.G02 0
ground_fault grounds.TooManyAtoms = refused_at files.Task codes.G03 0
ground_fault grounds.TooManyNodes = refused_at files.Task codes.G04 0
ground_fault (grounds.DurationTooLarge action) = refused_at files.Task codes.G05 action.0
ground_fault grounds.GridTooFine = refused_at files.Task codes.G06 0
ground_fault grounds.UncontrollableEvent = refused_at files.Task codes.G07 0
ground_fault grounds.Memory = Memory

-- what is read, or what the fault is to a command
abbrev pub or_fault : {A F : Type 0} → (F → CaseFault) → Result A F → Result A CaseFault
or_fault fault_of (Ok value) = Ok value
or_fault fault_of (Err fault) = Err (fault_of fault)

-- the answer to a refusal
abbrev pub refused : Refusal → Answer
refused r = answers.Refused r.file r.code r.at

-- the refusal, or an answer that is right; want of memory is no answer
abbrev pub IsOrRefused : {A : Type 0} → (A → Answer → Type 0) → Result A CaseFault → Answer → Type 0
IsOrRefused right (Err (Refused refusal)) answer = answer ≡ refused refusal
IsOrRefused right (Err Memory) answer = ⊥
IsOrRefused right (Ok value) answer = right value answer
