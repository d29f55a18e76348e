-- What is right to answer on the texts of a command's files: a line for each work.
use Rattle.std.specs.Prelude.{ℕ, List}
use Rattle.stp_schema.specs.Views.{PlainProblem}
use Rattle.stp_report.specs.declared.answer.Answer.{Answer}
use Rattle.stp_cli.specs.declared.texts.Texts.{Texts}
use Rattle.stp_cli.specs.declared.words.Work.{Work}
use Rattle.stp_cli.specs.declared.words.Work.TheVariants.{Check, Replay, Plan, Demo}
use Rattle.stp_cli.specs.Planned.{IsPlannedTask}
use Rattle.stp_cli.specs.Demo.{IsDemo}
use Rattle.stp_cli.specs.Case.{case_of, grid_of, box_of, problem_of_texts, task_in}
use Rattle.stp_cli.specs.Refusals.{IsOrRefused}
use Rattle.stp_cli.specs.Verdict.{IsVerdict}
use Rattle.stp_cli.specs.Replay.{IsReplayedCase}

-- the first refusal, or the verdict on the plan
abbrev pub IsChecked : Texts → Answer → Type 0
IsChecked texts answer =
    IsOrRefused (λ c. IsVerdict (grid_of c) (box_of c)) (case_of texts.domain texts.problem texts.plan) answer

-- the first refusal, or the run of the plan under the durations that are listed
abbrev pub IsReplayed : List ℕ → Texts → Answer → Type 0
IsReplayed list texts answer =
    IsOrRefused (IsReplayedCase list) (case_of texts.domain texts.problem texts.plan) answer

-- the first refusal of grounding, or what is right on the task
abbrev pub IsPlannedIn : PlainProblem → Answer → Type 0
IsPlannedIn problem answer = IsOrRefused (IsPlannedTask problem) (task_in problem) answer

-- the first refusal of the problem's texts, or what is right on the problem
abbrev pub IsPlanned : Texts → Answer → Type 0
IsPlanned texts answer = IsOrRefused IsPlannedIn (problem_of_texts texts.domain texts.problem) answer

abbrev pub IsRight : Work → List ℕ → Texts → Answer → Type 0
IsRight Check list texts answer = IsChecked texts answer
IsRight Replay list texts answer = IsReplayed list texts answer
IsRight Plan list texts answer = IsPlanned texts answer
IsRight (Demo number) list texts answer = IsDemo number answer
