-- How a call ends with an answer, and what it has to write.
use Rattle.std.specs.Prelude.{◌≡◌, ℕ, List, Some, None}
use Rattle.stp_report.specs.declared.answer.Answer.{Answer}
use Rattle.stp_report.specs.declared.answer.Answer.TheVariants as answers
use Rattle.stp_report.specs.Texts.{text_of}
use Rattle.stp_cli.specs.declared.status.Status.{Status}
use Rattle.stp_cli.specs.declared.status.Status.TheVariants as statuses

abbrev pub status_of : Answer → Status
status_of (answers.Strong steps uncertain events grid) = statuses.Done
status_of (answers.Weak grid durations fault) = statuses.No
status_of (answers.Replay run None) = statuses.Done
status_of (answers.Replay run (Some fault)) = statuses.No
status_of answers.EmptyPlan = statuses.Done
status_of (answers.Unreachable problem task certificate) = statuses.No
status_of answers.BudgetSpent = statuses.BudgetSpent
status_of (answers.Demo number plan spoiled) = statuses.Done
status_of (answers.Refused file code at) = statuses.Refused
status_of (answers.ReadFault file) = statuses.OutsideFault
status_of answers.Usage = statuses.Usage

-- an answer that may come, by its status and its text
abbrev pub IsReply : (Answer → Type 0) → Status → List ℕ → Type 0
IsReply allowed status text = (answer : Answer) × allowed answer × (status ≡ status_of answer) × (text ≡ text_of answer)
