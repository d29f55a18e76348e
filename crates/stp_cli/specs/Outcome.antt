-- What a call of the program may answer, and what it has written then.
use Rattle.std.specs.Prelude.{◌≡◌, ℕ, ◌≤◌, ◌⊎◌, List, ◌++◌, length, take, Option, Some, None, option_map}
use Rattle.stp_io.specs.Store.{HasRisen}
use Rattle.stp_report.specs.declared.answer.Answer.{Answer}
use Rattle.stp_report.specs.declared.answer.Answer.TheVariants as answers
use Rattle.stp_report.specs.Texts.{text_of}
use Rattle.stp_cli.specs.declared.status.Status.{Status}
use Rattle.stp_cli.specs.declared.status.Status.TheVariants as statuses
use Rattle.stp_cli.specs.declared.texts.Texts.{Texts}
use Rattle.stp_cli.specs.Calls.{StoreCall, SinkCall}
use Rattle.stp_cli.specs.Words.{Command, command_of, files_of}
use Rattle.stp_cli.specs.Texts.{no_texts}
use Rattle.stp_cli.specs.Loading.{IsStopped, AreLoaded}
use Rattle.stp_cli.specs.Answers.{IsRight}
use Rattle.stp_cli.specs.Replies.{status_of}

-- ---- the causes of answers

-- The files of a command are loaded, and the answer is right on their texts. Where the store does not tell its
-- files, there are such texts.
pub record IsDone (reads : StoreCall) (c : Command) (answer : Answer) : Type 0 where
  pub texts : Texts
  pub loaded : AreLoaded reads (files_of c) no_texts texts
  pub right : IsRight c.work c.list texts answer

-- when an answer may come to a command
abbrev pub IsAllowedTo : StoreCall → Command → Answer → Type 0
IsAllowedTo reads c answer = IsStopped reads (files_of c) answer ⊎ IsDone reads c answer

-- usage exactly where the words are no command
abbrev pub IsAllowed : StoreCall → Option Command → Answer → Type 0
IsAllowed reads None answer = answer ≡ answers.Usage
IsAllowed reads (Some c) answer = IsAllowedTo reads c answer

-- ---- what is left behind

-- this was appended, and nothing else
abbrev pub HasAppended : SinkCall → List ℕ → Type 0
HasAppended writes piece = writes.written_after ≡ option_map (λ w. w ++ piece) writes.written

-- the whole text of an answer was written
pub record IsWritten (writes : SinkCall) (status : Status) (answer : Answer) : Type 0 where
  pub ended : status ≡ status_of answer
  pub text : HasAppended writes (text_of answer)

-- a write failed and was counted, and a beginning of the text was written
pub record IsBroken (writes : SinkCall) (status : Status) (answer : Answer) : Type 0 where
  pub ended : status ≡ statuses.OutsideFault
  pub counted : HasRisen writes.faults writes.faults_after
  pub text : (n : ℕ) × (n ≤ length (text_of answer)) × HasAppended writes (take n (text_of answer))

-- memory was refused, and nothing was written
pub record IsWant (writes : SinkCall) (status : Status) : Type 0 where
  pub ended : status ≡ statuses.Memory
  pub nothing : writes.written_after ≡ writes.written

-- an answer that may come, written whole or as far as a write failed
pub record IsAnswered (reads : StoreCall) (writes : SinkCall) (words : List (List ℕ)) (status : Status) : Type 0 where
  pub answer : Answer
  pub allowed : IsAllowed reads (command_of words) answer
  pub left : IsWritten writes status answer ⊎ IsBroken writes status answer

abbrev pub IsOutcome : StoreCall → SinkCall → List (List ℕ) → Status → Type 0
IsOutcome reads writes words status = IsWant writes status ⊎ IsAnswered reads writes words status
