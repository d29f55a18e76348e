-- What the answers to commands come to, where the store tells its files and their names are steady.
use Rattle.std.specs.Prelude.{◌≡◌, ◌≢◌, ℕ, ◌↔◌, true, false, ◌⊎◌, nat_lt, if◌then◌else◌, List, [], ◌∷◌, length, All, Option, Some, unwrap_or, Result, Ok, Err, IfErr}
use Rattle.std.specs.Result.{result_err}
use Rattle.std.specs.Borrow.{Bor}
use Rattle.stp_base.specs.declared.limits.TheConstants.{MAX_FILE_BYTES}
use Rattle.stp_io.specs.Store.{HasRisen}
use Rattle.stp_refusal.specs.declared.code.Code.TheVariants.{F01}
use Rattle.stp_schema.specs.declared.problem.Problem.{Problem}
use Rattle.stp_schema.specs.Views.{PlainProblem}
use Rattle.stp_task.specs.declared.certificate.Certificate.{Certificate}
use Rattle.stp_task.specs.declared.task.Task.{Task}
use Rattle.stp_task.specs.Certificates.{IsLeastClosed, Pair, possible}
use Rattle.stp_task.specs.Tasks.{PlainTask}
use Rattle.stp_exec.specs.Placed.{PlainPlaced}
use Rattle.stp_exec.specs.Plans.{IsPlan, IsStrongPlan, box_of_plan}
use Rattle.stp_unreachable.specs.PlansOf.{NeverExecutes}
use Rattle.stp_exec.specs.Timed.{PlainTimes}
use Rattle.stp_report.specs.declared.answer.Answer.{Answer}
use Rattle.stp_report.specs.declared.answer.Answer.TheVariants as answers
use Rattle.stp_report.specs.Texts.{text_of}
use Rattle.stp_cli.specs.declared.refusal.CaseFault.{CaseFault}
use Rattle.stp_cli.specs.declared.refusal.CaseFault.TheVariants.{Refused, Memory}
use Rattle.stp_cli.specs.declared.refusal.Refusal.{Refusal}
use Rattle.stp_cli.specs.declared.status.Status.{Status}
use Rattle.stp_cli.specs.declared.status.Status.TheVariants as statuses
use Rattle.stp_cli.specs.declared.texts.Texts.{Texts}
use Rattle.stp_cli.specs.declared.words.Work.{Work}
use Rattle.stp_cli.specs.declared.words.Work.TheVariants.{Check, Replay, Plan, Demo}
use Rattle.stp_cli.specs.Calls.{Files, StoreCall, SinkCall}
use Rattle.stp_cli.specs.Words.{Named, Command, command_of, files_of}
use Rattle.stp_cli.specs.Texts.{no_texts, with_text}
use Rattle.stp_base.specs.Results.{◌>>=◌}
use Rattle.stp_cli.specs.Refusals.{refused_at, refused}
use Rattle.stp_cli.specs.Case.{PlainCase, case_of, problem_of_texts, task_in, times_of, grid_of, box_of}
use Rattle.stp_cli.specs.Loading.{IsStopped, AreLoaded}
use Rattle.stp_cli.specs.Verdict.{IsStrongVerdict, IsWeakVerdict}
use Rattle.stp_cli.specs.Planned.{IsUnreachable}
use Rattle.stp_cli.specs.Demo.{TwoCases, demo_cases, IsShown}
use Rattle.stp_cli.specs.Replay.{durations_of}
use Rattle.stp_cli.specs.Replies.{status_of}
use Rattle.stp_cli.specs.Answers.{IsRight}
use Rattle.stp_cli.specs.Outcome.{IsAllowedTo, IsWritten}

-- ---- what is accepted

-- The texts of files that are told, put to those before, or the refusal of the first that is too long. (A file
-- that is not there has no steady name, and so no answer is ever given on it.)
abbrev pub texts_in : Files → List Named → Texts → Result Texts CaseFault
texts_in file [] texts = Ok texts
texts_in file (f ∷ fs) texts =
    let bytes = unwrap_or (file f.name) [] in
    if nat_lt MAX_FILE_BYTES (length bytes)
    then Err (refused_at f.role F01 MAX_FILE_BYTES)
    else texts_in file fs (with_text f.role bytes texts)

-- the case that the files of a command make, or their first refusal
abbrev pub case_in : Files → Command → Result PlainCase CaseFault
case_in file c = do
  texts ← texts_in file (files_of c) no_texts
  case_of texts.domain texts.problem texts.plan

-- the problem that the files of a command make, or their first refusal
abbrev pub problem_in : Files → Command → Result PlainProblem CaseFault
problem_in file c = do
  texts ← texts_in file (files_of c) no_texts
  problem_of_texts texts.domain texts.problem

-- the files of a command are accepted, and make this case
abbrev pub IsAccepted : Files → Command → PlainCase → Type 0
IsAccepted file c made = case_in file c ≡ Ok made

-- what a work refuses of the texts of its files: a line for each work
abbrev pub refusal_on : Work → List ℕ → Texts → Option CaseFault
refusal_on Check list texts = result_err (case_of texts.domain texts.problem texts.plan)
refusal_on Replay list texts =
    result_err (case_of texts.domain texts.problem texts.plan >>= (λ c. durations_of (times_of c) list))
refusal_on Plan list texts = result_err (problem_of_texts texts.domain texts.problem >>= task_in)
refusal_on (Demo number) list texts = result_err (demo_cases number)

abbrev pub refusal_in : Work → List ℕ → Result Texts CaseFault → Option CaseFault
refusal_in work list (Err fault) = Some fault
refusal_in work list (Ok texts) = refusal_on work list texts

-- the first refusal of a command, if it has one
abbrev pub first_refusal : Files → Command → Option CaseFault
first_refusal file c = refusal_in c.work c.list (texts_in file (files_of c) no_texts)

-- ---- the headline

-- the answer begins with the word strong
pub record SaysStrong (answer : Answer) : Type 0 where
  pub steps : ℕ
  pub uncertain : ℕ
  pub events : ℕ
  pub grid : ℕ
  pub answered : answer ≡ answers.Strong steps uncertain events grid

-- What is answered to `check` on a case, or on the refusal that stands in its place: strong exactly where, on the base
-- grid and on every finer one and for every choice of the uncontrollable durations and of the moments of events within
-- their bounds, the plan executes and reaches the goal; and otherwise its least failure on the base grid with the first
-- fault of that run.
pub record IsHeadline (read : Result PlainCase CaseFault) (answer : Answer) : Type 0 where
  pub refusals : (r : Refusal) → read ≡ Err (Refused r) → answer ≡ refused r
  pub exact : (made : PlainCase) → read ≡ Ok made → SaysStrong answer ↔ IsStrongPlan made.problem made.steps
  pub done : (made : PlainCase) → read ≡ Ok made
      → (status_of answer ≡ statuses.Done) ↔ IsStrongPlan made.problem made.steps
  pub strong : (made : PlainCase) → read ≡ Ok made → IsStrongPlan made.problem made.steps
      → IsStrongVerdict (grid_of made) (box_of made) answer
  pub weak : (made : PlainCase) → read ≡ Ok made → (IsStrongPlan made.problem made.steps → ⊥)
      → IsWeakVerdict (grid_of made) (box_of made) answer

-- the answer says that the goal cannot be reached
pub record SaysUnreachable (answer : Answer) : Type 0 where
  pub problem : Bor Problem
  pub task : Bor Task
  pub certificate : Bor Certificate
  pub answered : answer ≡ answers.Unreachable problem task certificate

-- the plan without steps is not strong
abbrev pub IsEmptyPlanWeak : PlainProblem → Type 0
IsEmptyPlanWeak problem = IsStrongPlan problem [] → ⊥

-- the goal of a task is impossible in its least closed pair, or may hold in it
abbrev pub IsImpossible : PlainTask → Type 0
IsImpossible t = (pair : Pair) × IsLeastClosed t pair × (possible pair t.goal ≡ false)

abbrev pub MayHold : PlainTask → Type 0
MayHold t = (pair : Pair) × IsLeastClosed t pair × (possible pair t.goal ≡ true)

-- no run of any plan of a problem executes
abbrev pub IsHopeless : PlainProblem → Type 0
IsHopeless p = (steps : List PlainPlaced) → IsPlan p steps → NeverExecutes (box_of_plan p steps)

-- What is answered to `plan` on a problem and its task where nothing may be searched: the plan without steps exactly
-- where it is strong; that the goal cannot be reached, with the least closed pair, exactly where the goal is impossible
-- in that pair, and then no run of any plan executes; and otherwise that the budget is spent.
pub record IsPlanAnswer (p : PlainProblem) (t : PlainTask) (answer : Answer) : Type 0 where
  pub empty : (answer ≡ answers.EmptyPlan) ↔ IsStrongPlan p []
  pub unreachable : SaysUnreachable answer ↔ IsImpossible t
  pub certified : SaysUnreachable answer → IsUnreachable p t answer
  pub hopeless : SaysUnreachable answer → IsHopeless p
  pub spent : (answer ≡ answers.BudgetSpent) ↔ (IsEmptyPlanWeak p × MayHold t)

-- The same of what is read: the first refusal of the problem's texts, or of its task, is answered.
pub record IsPlanHeadline (read : Result PlainProblem CaseFault) (answer : Answer) : Type 0 where
  pub refusals : (r : Refusal) → (read >>= task_in) ≡ Err (Refused r) → answer ≡ refused r
  pub answers : (p : PlainProblem) (t : PlainTask) → read ≡ Ok p → task_in p ≡ Ok t → IsPlanAnswer p t answer

-- What is answered to `demo` on the cases of its two plans, or on the refusal that stands in their place: of its plan
-- and of its spoiled plan how many steps they have, on which base grid, that they are strong exactly where they are, and
-- otherwise the last entry of their least failure with the first fault of that run.
pub record IsDemoHeadline (number : ℕ) (read : Result TwoCases CaseFault) (answer : Answer) : Type 0 where
  pub refusals : (r : Refusal) → read ≡ Err (Refused r) → answer ≡ refused r
  pub shown : (cases : TwoCases) → read ≡ Ok cases → IsShown number cases answer

-- each name of these files is steady
abbrev pub AreSteady : StoreCall → List Named → Type 0
AreSteady reads files = All (λ (f : Named). reads.steady f.name ≡ true) files

-- a command over files that the store tells and of which no read fails
pub record IsOverFiles (reads : StoreCall) (file : Files) (c : Command) : Type 0 where
  pub told : reads.told ≡ Some file
  pub steady : AreSteady reads (files_of c)

-- `check` over such files
pub record IsCheck (reads : StoreCall) (file : Files) (c : Command) : Type 0 where
  pub work : c.work ≡ Check
  pub over : IsOverFiles reads file c

-- A call with a `check` as its words, over a store that tells its files, that ends neither for want of memory nor
-- with a fault of the outside, has appended the whole text of the answer that the headline names.
abbrev pub IsHeadlineOf : StoreCall → SinkCall → List (List ℕ) → Status → Type 0
IsHeadlineOf reads writes words status =
    (file : Files) (c : Command) → command_of words ≡ Some c → c.work ≡ Check → reads.told ≡ Some file
    → status ≢ statuses.Memory → status ≢ statuses.OutsideFault
    → (answer : Answer) × IsHeadline (case_in file c) answer × IsWritten writes status answer

-- the same of a `plan` and its headline
abbrev pub IsPlanHeadlineOf : StoreCall → SinkCall → List (List ℕ) → Status → Type 0
IsPlanHeadlineOf reads writes words status =
    (file : Files) (c : Command) → command_of words ≡ Some c → c.work ≡ Plan → reads.told ≡ Some file
    → status ≢ statuses.Memory → status ≢ statuses.OutsideFault
    → (answer : Answer) × IsPlanHeadline (problem_in file c) answer × IsWritten writes status answer

-- The same of a `demo`, whatever its store is: its texts are those that are made.
abbrev pub IsDemoHeadlineOf : SinkCall → List (List ℕ) → Status → Type 0
IsDemoHeadlineOf writes words status =
    (number : ℕ) (c : Command) → command_of words ≡ Some c → c.work ≡ Demo number
    → status ≢ statuses.Memory → status ≢ statuses.OutsideFault
    → (answer : Answer) × IsDemoHeadline number (demo_cases number) answer × IsWritten writes status answer

-- A call with a command as its words, over files of steady names and in which no write failed, ends with no fault of
-- the outside.
abbrev pub IsComplete : StoreCall → SinkCall → List (List ℕ) → Status → Type 0
IsComplete reads writes words status =
    (c : Command) → command_of words ≡ Some c → AreSteady reads (files_of c)
    → (HasRisen writes.faults writes.faults_after → ⊥)
    → status ≢ statuses.OutsideFault

-- ---- laws

-- an answer that may come to `check` is the one of the headline
abbrev pub ChecksMeetTheHeadline : Type 0
ChecksMeetTheHeadline =
    (reads : StoreCall) (file : Files) (c : Command) (answer : Answer)
    → IsCheck reads file c → IsAllowedTo reads c answer → IsHeadline (case_in file c) answer

-- an answer that may come to `plan` over told files of steady names is the one of its headline
abbrev pub PlansMeetTheHeadline : Type 0
PlansMeetTheHeadline =
    (reads : StoreCall) (file : Files) (c : Command) (answer : Answer)
    → c.work ≡ Plan → IsOverFiles reads file c → IsAllowedTo reads c answer → IsPlanHeadline (problem_in file c) answer

-- of accepted files it says strong exactly where their plan is strong
abbrev pub StrongIsExact : Type 0
StrongIsExact =
    (reads : StoreCall) (file : Files) (c : Command) (made : PlainCase) (answer : Answer)
    → IsCheck reads file c → IsAccepted file c made → IsAllowedTo reads c answer
    → SaysStrong answer ↔ IsStrongPlan made.problem made.steps

-- Over any store, also one that tells nothing, it says which file was not loaded, or is the one of the headline on
-- some texts of lawful length, one for each file.
abbrev pub ChecksAreOfTexts : Type 0
ChecksAreOfTexts =
    (reads : StoreCall) (c : Command) (answer : Answer) → c.work ≡ Check → IsAllowedTo reads c answer
    → IsStopped reads (files_of c) answer
    ⊎ ((texts : Texts)
    × AreLoaded reads (files_of c) no_texts texts
    × IsHeadline (case_of texts.domain texts.problem texts.plan) answer)

-- two answers that may come to `check` are printed alike, and end alike
abbrev pub ChecksHaveOneText : Type 0
ChecksHaveOneText =
    (reads : StoreCall) (file : Files) (c : Command) (one other : Answer)
    → IsCheck reads file c → IsAllowedTo reads c one → IsAllowedTo reads c other
    → (text_of one ≡ text_of other) × (status_of one ≡ status_of other)

-- a refusal is answered to a command exactly where it is the first one
abbrev pub RefusalsAreExact : Type 0
RefusalsAreExact =
    (reads : StoreCall) (file : Files) (c : Command) (answer : Answer)
    → IsOverFiles reads file c → IsAllowedTo reads c answer
    → (r : Refusal) → (answer ≡ refused r) ↔ (first_refusal file c ≡ Some (Refused r))

-- two answers that are right on one command's texts are printed alike, and end alike
abbrev pub RightAnswersHaveOneText : Type 0
RightAnswersHaveOneText =
    (work : Work) (list : List ℕ) (texts : Texts) (one other : Answer)
    → IsRight work list texts one → IsRight work list texts other
    → (text_of one ≡ text_of other) × (status_of one ≡ status_of other)

-- texts are refused or make a case: their definition never answers want of memory
abbrev pub NoCaseIsWantOfMemory : Type 0
NoCaseIsWantOfMemory = (domain problem plan : List ℕ) → IfErr (case_of domain problem plan) (λ fault. fault ≢ Memory)

-- nor does that of the task of a problem
abbrev pub NoTaskIsWantOfMemory : Type 0
NoTaskIsWantOfMemory = (problem : PlainProblem) → IfErr (task_in problem) (λ fault. fault ≢ Memory)

-- nor does that of a list of durations and moments
abbrev pub NoListIsWantOfMemory : Type 0
NoListIsWantOfMemory = (times : PlainTimes) (list : List ℕ) → IfErr (durations_of times list) (λ fault. fault ≢ Memory)

-- an answer that is right on texts is no fault of the outside
abbrev pub RightAnswersAreNoFaults : Type 0
RightAnswersAreNoFaults =
    (work : Work) (list : List ℕ) (texts : Texts) (answer : Answer)
    → IsRight work list texts answer → status_of answer ≢ statuses.OutsideFault

-- where the names of a command's files are steady, no fault of the outside is answered
abbrev pub SteadyNamesAreRead : Type 0
SteadyNamesAreRead =
    (reads : StoreCall) (c : Command) (answer : Answer)
    → AreSteady reads (files_of c) → IsAllowedTo reads c answer → status_of answer ≢ statuses.OutsideFault
