-- The texts of answers. Each line ends by a line feed.
use Rattle.std.specs.Prelude.{ℕ, pos, ◌==◌, if◌then◌else◌, List, [], ◌∷◌, ◌++◌, Option, Some, None, codes}
use Rattle.std.specs.Fmt.{decimal}
use Rattle.stp_frac.specs.Fractions.{lowest}
use Rattle.stp_frac.specs.Reading.{text_of as number_text}
use Rattle.stp_refusal.specs.declared.code.Code.{Code}
use Rattle.stp_refusal.specs.declared.code.Code.TheVariants as code
use Rattle.stp_happen.specs.declared.fault.Fault.{Fault}
use Rattle.stp_happen.specs.declared.fault.Fault.TheVariants as faults
use Rattle.stp_happen.specs.declared.run.Entry.{Entry}
use Rattle.stp_happen.specs.declared.run.Span.{Span}
use Rattle.stp_schema.specs.Views.{problem_of}
use Rattle.stp_cond.specs.Views.{atoms_of}
use Rattle.stp_report.specs.NoPlan.{unreachable_text}
use Rattle.stp_report.specs.declared.answer.Answer.{Answer}
use Rattle.stp_report.specs.declared.answer.Answer.TheVariants as answers
use Rattle.stp_report.specs.declared.answer.Failure.{Failure}
use Rattle.stp_report.specs.declared.answer.Summary.{Summary}
use Rattle.stp_report.specs.declared.answer.FileName.{FileName}
use Rattle.stp_report.specs.declared.answer.FileName.TheVariants as files

-- a line's text with its end
abbrev pub line : List ℕ → List ℕ
line text = text ++ 10 ∷ []

abbrev pub file_text : FileName → List ℕ
file_text files.Domain = codes "domain"
file_text files.Problem = codes "problem"
file_text files.Plan = codes "plan"
file_text files.Durations = codes "durations"
file_text files.Task = codes "task"

abbrev pub code_text : Code → List ℕ
code_text code.F01 = codes "F01"
code_text code.T01 = codes "T01"
code_text code.T02 = codes "T02"
code_text code.T03 = codes "T03"
code_text code.T04 = codes "T04"
code_text code.T05 = codes "T05"
code_text code.T06 = codes "T06"
code_text code.D01 = codes "D01"
code_text code.D02 = codes "D02"
code_text code.D03 = codes "D03"
code_text code.D04 = codes "D04"
code_text code.D05 = codes "D05"
code_text code.D06 = codes "D06"
code_text code.D07 = codes "D07"
code_text code.D08 = codes "D08"
code_text code.D09 = codes "D09"
code_text code.D10 = codes "D10"
code_text code.D11 = codes "D11"
code_text code.D12 = codes "D12"
code_text code.D13 = codes "D13"
code_text code.D14 = codes "D14"
code_text code.D15 = codes "D15"
code_text code.D16 = codes "D16"
code_text code.D17 = codes "D17"
code_text code.D18 = codes "D18"
code_text code.D19 = codes "D19"
code_text code.D20 = codes "D20"
code_text code.D21 = codes "D21"
code_text code.D22 = codes "D22"
code_text code.D23 = codes "D23"
code_text code.D24 = codes "D24"
code_text code.P01 = codes "P01"
code_text code.P02 = codes "P02"
code_text code.P03 = codes "P03"
code_text code.P04 = codes "P04"
code_text code.P05 = codes "P05"
code_text code.P06 = codes "P06"
code_text code.P07 = codes "P07"
code_text code.P08 = codes "P08"
code_text code.P09 = codes "P09"
code_text code.P10 = codes "P10"
code_text code.P11 = codes "P11"
code_text code.P12 = codes "P12"
code_text code.P13 = codes "P13"
code_text code.P14 = codes "P14"
code_text code.P15 = codes "P15"
code_text code.P16 = codes "P16"
code_text code.P17 = codes "P17"
code_text code.L01 = codes "L01"
code_text code.L02 = codes "L02"
code_text code.X01 = codes "X01"
code_text code.X02 = codes "X02"
code_text code.X03 = codes "X03"
code_text code.X04 = codes "X04"
code_text code.X05 = codes "X05"
code_text code.X06 = codes "X06"
code_text code.X07 = codes "X07"
code_text code.X08 = codes "X08"
code_text code.X09 = codes "X09"
code_text code.X10 = codes "X10"
code_text code.X11 = codes "X11"
code_text code.V01 = codes "V01"
code_text code.V02 = codes "V02"
code_text code.V03 = codes "V03"
code_text code.V04 = codes "V04"
code_text code.G01 = codes "G01"
code_text code.G02 = codes "G02"
code_text code.G03 = codes "G03"
code_text code.G04 = codes "G04"
code_text code.G05 = codes "G05"
code_text code.G06 = codes "G06"
code_text code.G07 = codes "G07"
code_text code.R01 = codes "R01"
code_text code.R02 = codes "R02"
code_text code.R03 = codes "R03"
code_text code.N00 = codes "N00"

-- so many parts of a unit of time, of which `grid` are one, in lowest terms
unfoldable pub time_text : ℕ → ℕ → List ℕ
time_text grid time = number_text (lowest (pos time) grid)

-- ---- faults

-- a moment and two steps
abbrev pub at_steps : ℕ → ℕ → ℕ → ℕ → List ℕ
at_steps grid time first second = codes " at " ++ time_text grid time ++ codes " steps " ++ decimal first ++ codes " " ++ decimal second

-- a moment and a step
abbrev pub at_step : ℕ → ℕ → ℕ → List ℕ
at_step grid time step = codes " at " ++ time_text grid time ++ codes " step " ++ decimal step

-- a fault, its moment on a grid
abbrev pub fault_text : ℕ → Fault → List ℕ
fault_text grid (faults.Overlap time first second) = codes "overlap" ++ at_steps grid time first.0 second.0
fault_text grid (faults.Interference time first second) = codes "interference" ++ at_steps grid time first.0 second.0
fault_text grid (faults.Condition time step) = codes "condition" ++ at_step grid time step.0
fault_text grid (faults.OverAll time step) = codes "over-all" ++ at_step grid time step.0
fault_text grid faults.Goal = codes "goal"

abbrev pub fault_line : ℕ → Fault → List ℕ
fault_line grid fault = line (codes "fault " ++ fault_text grid fault)

-- ---- durations

-- further durations, each behind a comma
abbrev pub further_text : ℕ → List ℕ → List ℕ
further_text grid [] = []
further_text grid (d ∷ ds) = 44 ∷ time_text grid d ++ further_text grid ds

-- durations parted by commas
abbrev pub durations_text : ℕ → List ℕ → List ℕ
durations_text grid [] = codes "none"
durations_text grid (d ∷ ds) = time_text grid d ++ further_text grid ds

-- ---- runs

-- what an event is at this time of a step with this span: the one moment of a step without duration, or its start, or its end
abbrev pub kind_text : ℕ → Span → List ℕ
kind_text time s = if s.from == s.to then codes "moment" else (if time == s.from then codes "start" else codes "end")

-- what an event of the environment is, which has no span: one at a fixed moment has the number 0
abbrev pub outer_text : ℕ → List ℕ
outer_text number = if number == 0 then codes "timed" else codes "event"

-- what an event of this number is, by the spans of all steps
abbrev pub kind_in : ℕ → ℕ → List Span → List ℕ
kind_in time step [] = outer_text step
kind_in time step (s ∷ ss) = if s.step.0 == step then kind_text time s else kind_in time step ss

abbrev pub entry_line : ℕ → List Span → Entry → List ℕ
entry_line grid spans e = line (time_text grid e.time ++ codes " " ++ kind_in e.time e.step.0 spans ++ codes " " ++ decimal e.step.0)

abbrev pub entry_lines : ℕ → List Span → List Entry → List ℕ
entry_lines grid spans [] = []
entry_lines grid spans (e ∷ es) = entry_line grid spans e ++ entry_lines grid spans es

abbrev pub ending_line : ℕ → Option Fault → List ℕ
ending_line grid None = line (codes "executes")
ending_line grid (Some fault) = fault_line grid fault

-- ---- strong plans

-- how many events have a moment that is chosen, where there are any
abbrev pub events_text : ℕ → List ℕ
events_text events = if events == 0 then [] else codes " events " ++ decimal events

abbrev pub strong_line : ℕ → ℕ → ℕ → ℕ → List ℕ
strong_line steps uncertain events grid =
    line (codes "steps " ++ decimal steps ++ codes " uncertain " ++ decimal uncertain ++ events_text events ++ codes " grid " ++ decimal grid)

-- ---- demos

-- whether a plan that may fail so is strong
abbrev pub verdict_text : Option Failure → List ℕ
verdict_text None = codes "strong"
verdict_text (Some failure) = codes "not strong"

-- what is told of a plan
abbrev pub summary_line : Summary → List ℕ
summary_line s =
    line (codes "steps " ++ decimal s.steps ++ codes " uncertain " ++ decimal s.uncertain ++ codes " grid " ++ decimal s.grid ++ codes " " ++ verdict_text s.failure)

-- the last entry of a least failure, if that has one
abbrev pub last_text : ℕ → Option ℕ → List ℕ
last_text grid None = codes "none"
last_text grid (Some time) = time_text grid time

abbrev pub grid_text : ℕ → List ℕ
grid_text grid = codes "spoiled grid " ++ decimal grid

-- how the spoiled plan fails, to the end of its line
abbrev pub failing_text : ℕ → Failure → List ℕ
failing_text grid f = codes " last " ++ last_text grid f.last ++ codes " " ++ fault_line grid f.fault

abbrev pub failure_text : ℕ → Option Failure → List ℕ
failure_text grid None = line (codes " strong")
failure_text grid (Some f) = failing_text grid f

-- ---- what is printed

abbrev pub text_of : Answer → List ℕ
text_of (answers.Strong steps uncertain events grid) = line (codes "strong") ++ strong_line steps uncertain events grid
text_of (answers.Weak grid durations fault) = line (codes "not strong") ++ line (codes "durations " ++ durations_text grid durations.now) ++ fault_line grid fault
text_of (answers.Replay run fault) = entry_lines run.now.grid run.now.spans run.now.entries ++ ending_line run.now.grid fault
text_of answers.EmptyPlan = line (codes "; plan 0 steps")
text_of (answers.Unreachable problem task certificate) = unreachable_text (problem_of problem.now) task.now.atoms (atoms_of certificate.now.may) (atoms_of certificate.now.always)
text_of answers.BudgetSpent = line (codes "budget spent")
text_of (answers.Demo number plan spoiled) = line (codes "demo " ++ decimal number) ++ summary_line plan ++ grid_text spoiled.grid ++ failure_text spoiled.grid spoiled.failure
text_of (answers.Refused file code at) = line (codes "refused " ++ file_text file ++ codes " " ++ code_text code ++ codes " at " ++ decimal at)
text_of (answers.ReadFault file) = line (codes "fault read " ++ file_text file)
text_of answers.Usage = line (codes "usage: stp check DOMAIN PROBLEM PLAN") ++ line (codes "       stp plan DOMAIN PROBLEM [--budget N] [--trace]") ++ line (codes "       stp replay DOMAIN PROBLEM PLAN --durations LIST") ++ line (codes "       stp demo N")
