-- What the answers that may come to a command come to over told files of steady names.
use Rattle.std.proofs.Common.{◌≡◌, ◌≢◌, ℕ, ◌↔◌, Bool, true, false, List, [], ◌∷◌, ◌++◌, length, Option, Some, None, Result, Ok, Err, refl, sym, ap, subst, ◌∙◌, arith, inl, inr, nat_lt, codes}
use Rattle.std.specs.Result.{result_err}
use Rattle.std.specs.Borrow.{Bor}
use Rattle.std.proofs.lemmas.Bool.Decides.{nat_tests}
use Rattle.std.proofs.lemmas.List.Elements.{All-head, All-tail}
use Rattle.stp_io.specs.Store.{HasRisen}
use Rattle.stp_io.specs.Steady.{SteadyState}
use Rattle.stp_refusal.specs.declared.code.Code.TheVariants.{F01}
use Rattle.stp_exec.specs.Plans.{IsStrongPlan}
use Rattle.stp_happen.specs.declared.fault.Fault.{Fault}
use Rattle.stp_happen.specs.declared.run.Run.{Run}
use Rattle.stp_happen.specs.Boxes.{PlainBox, run_under}
use Rattle.stp_happen.specs.Faults.{IsFirstFault}
use Rattle.stp_happen.proofs.LeastFailures.{least_failure_is_one}
use Rattle.stp_happen.proofs.OneFault.{first_fault_is_one}
use Rattle.stp_report.specs.declared.answer.Answer.{Answer}
use Rattle.stp_report.specs.declared.answer.Answer.TheVariants as answers
use Rattle.stp_report.specs.Texts.{line, durations_text, fault_line, text_of}
use Rattle.stp_cli.specs.declared.refusal.CaseFault.{CaseFault}
use Rattle.stp_cli.specs.declared.refusal.CaseFault.TheVariants as cases
use Rattle.stp_cli.specs.declared.refusal.Refusal.{Refusal}
use Rattle.stp_cli.specs.declared.status.Status.{Status}
use Rattle.stp_cli.specs.declared.status.Status.TheVariants as statuses
use Rattle.stp_cli.specs.declared.texts.Texts.{Texts}
use Rattle.stp_cli.specs.declared.words.Work.{Work}
use Rattle.stp_cli.specs.declared.words.Work.TheVariants.{Check, Replay, Plan, Demo}
use Rattle.stp_cli.specs.Calls.{Files, StoreCall, SinkCall, steady_call, silent_call}
use Rattle.stp_cli.specs.Words.{Named, Command, command_of, files_of, named_of, roles_of}
use Rattle.stp_cli.specs.Texts.{no_texts, with_text}
use Rattle.stp_base.specs.Results.{◌>>=◌}
use Rattle.stp_cli.specs.Refusals.{refusal, refused, ground_fault, IsOrRefused}
use Rattle.stp_cli.specs.Case.{PlainCase, case_of, problem_of_texts, task_in, times_of, grid_of, box_of}
use Rattle.stp_cli.specs.Loading.{IsStopped, AreLoaded}
use Rattle.stp_cli.specs.Verdict.{IsStrongVerdict, IsWeakVerdict, IsVerdict}
use Rattle.stp_cli.specs.Replay.{durations_of, IsReplay, IsReplayedCase}
use Rattle.stp_cli.specs.Replies.{status_of}
use Rattle.stp_cli.specs.Answers.{IsChecked, IsPlanned, IsPlannedIn, IsRight}
use Rattle.stp_cli.specs.Planned.{IsPlannedTask}
use Rattle.stp_cli.specs.Demo.{TwoCases, demo_cases, IsShown, IsDemo}
use Rattle.stp_task.specs.CertificateViews.{pair_of}
use Rattle.stp_task.specs.Certificates.{IsCertificate, IsLeastClosed, Pair, possible}
use Rattle.stp_task.specs.Tasks.{PlainTask}
use Rattle.stp_schema.specs.declared.problem.Problem.{Problem}
use Rattle.stp_schema.specs.Views.{PlainProblem, problem_of}
use Rattle.stp_kept.specs.KeptTasks.{task_or_fault}
use Rattle.stp_unreachable.specs.PlansOf.{HasPlainSimpleActions, HasProperEvents}
use Rattle.stp_unreachable.proofs.NoRuns.{no_run_of_the_plan}
use Rattle.stp_unreachable.proofs.Premises.{events_are_proper}
use Rattle.stp_cli.proofs.ReadProblems.{bound, no_fault, simple_actions_are_plain}
use Rattle.stp_relax.proofs.Growing.{possible_grows}
use Rattle.stp_cli.specs.Outcome.{IsAllowedTo, IsAllowed, IsOutcome}
use Rattle.stp_cli.specs.Headline.{texts_in, case_in, refusal_on, refusal_in, SaysStrong, IsHeadline, AreSteady, IsOverFiles, IsCheck, IsHeadlineOf, IsHopeless, IsPlanAnswer, IsPlanHeadline, IsPlanHeadlineOf, IsDemoHeadline, IsDemoHeadlineOf, IsComplete, problem_in, ChecksMeetTheHeadline, PlansMeetTheHeadline, StrongIsExact, ChecksAreOfTexts, ChecksHaveOneText, RefusalsAreExact, RightAnswersAreNoFaults, SteadyNamesAreRead}

-- ---- faults of the outside

fault_free : {A : Type 0} (right : A → Answer → Type 0) → ((a : A) (answer : Answer) → right a answer → status_of answer ≢ statuses.OutsideFault) → (read : Result A CaseFault) (answer : Answer)
    → IsOrRefused right read answer → status_of answer ≢ statuses.OutsideFault
fault_free right free (Err cases.Memory) answer is = absurd is
fault_free right free (Err (cases.Refused r)) answer is = λ e. let both : statuses.Refused ≡ statuses.OutsideFault = sym (ap status_of is) ∙ e in cc
fault_free right free (Ok a) answer is = free a answer is

free_verdict : (grid : ℕ) (box : PlainBox) (answer : Answer) → IsVerdict grid box answer → status_of answer ≢ statuses.OutsideFault
free_verdict grid box answer (inl v) = λ e. let both : statuses.Done ≡ statuses.OutsideFault = sym (ap status_of v.answered) ∙ e in cc
free_verdict grid box answer (inr v) = λ e. let both : statuses.No ≡ statuses.OutsideFault = sym (ap status_of v.answered) ∙ e in cc

free_run : (run : Bor Run) (fault : Option Fault) → status_of (answers.Replay run fault) ≢ statuses.OutsideFault
free_run run None = λ e. cc
free_run run (Some f) = λ e. cc

free_replay : (list : List ℕ) (c : PlainCase) (answer : Answer) → IsReplayedCase list c answer → status_of answer ≢ statuses.OutsideFault
free_replay list c = fault_free (IsReplay c) (λ ds answer v e. free_run v.shown.run v.shown.fault (sym (ap status_of v.shown.answered) ∙ e)) (durations_of (times_of c) list)

free_task : (p : PlainProblem) (t : PlainTask) (answer : Answer) → IsPlannedTask p t answer → status_of answer ≢ statuses.OutsideFault
free_task p t answer (inl v) = λ e. let both : statuses.Done ≡ statuses.OutsideFault = sym (ap status_of v.answered) ∙ e in cc
free_task p t answer (inr (inl v)) = λ e. let both : statuses.No ≡ statuses.OutsideFault = sym (ap status_of v.answered) ∙ e in cc
free_task p t answer (inr (inr v)) = λ e. let both : statuses.BudgetSpent ≡ statuses.OutsideFault = sym (ap status_of v.answered) ∙ e in cc

pub right_answers_are_no_faults : RightAnswersAreNoFaults
right_answers_are_no_faults Check list texts answer right = fault_free (λ c. IsVerdict (grid_of c) (box_of c)) (λ c. free_verdict (grid_of c) (box_of c)) (case_of texts.domain texts.problem texts.plan) answer right
right_answers_are_no_faults Replay list texts answer right = fault_free (IsReplayedCase list) (free_replay list) (case_of texts.domain texts.problem texts.plan) answer right
right_answers_are_no_faults Plan list texts answer right = fault_free IsPlannedIn (λ p. fault_free (IsPlannedTask p) (free_task p) (task_in p)) (problem_of_texts texts.domain texts.problem) answer right
right_answers_are_no_faults (Demo number) list texts answer right =
    fault_free (IsShown number) (λ cases a v e. let both : statuses.Done ≡ statuses.OutsideFault = sym (ap status_of v.answered) ∙ e in cc) (demo_cases number) answer right

stopped_steadily : (reads : StoreCall) (fs : List Named) (answer : Answer) → AreSteady reads fs → IsStopped reads fs answer → status_of answer ≢ statuses.OutsideFault
stopped_steadily reads [] answer all h = absurd h
stopped_steadily reads (f ∷ fs) answer all (inl unread) = let both : true ≡ false = sym (All-head (λ (n : Named). reads.steady n.name ≡ true) f fs all) ∙ unread.unsteady in absurd (cc)
stopped_steadily reads (f ∷ fs) answer all (inr (inl long)) = λ e. let both : statuses.Refused ≡ statuses.OutsideFault = sym (ap status_of long.answered) ∙ e in cc
stopped_steadily reads (f ∷ fs) answer all (inr (inr (bytes, fine, rest))) = stopped_steadily reads fs answer (All-tail (λ (n : Named). reads.steady n.name ≡ true) f fs all) rest

pub steady_names_are_read : SteadyNamesAreRead
steady_names_are_read reads c answer all (inl stopped) = stopped_steadily reads (files_of c) answer all stopped
steady_names_are_read reads c answer all (inr done) = right_answers_are_no_faults c.work c.list done.texts answer done.right

allowed_steadily : (store : SteadyState) (command : Option Command) (answer : Answer) → IsAllowed (steady_call store) command answer → status_of answer ≢ statuses.OutsideFault
allowed_steadily store None answer is = λ e. let both : statuses.Usage ≡ statuses.OutsideFault = sym (ap status_of is) ∙ e in cc
allowed_steadily store (Some c) answer allowed = steady_names_are_read (steady_call store) c answer (λ k d h. refl) allowed

risen_from_none : HasRisen 0 0 → ⊥
risen_from_none (inl lt) = omega arith
risen_from_none (inr last) = cc

-- a store of which no read fails and a sink of which no write does leave no fault of the outside
pub steady_outcome : (store : SteadyState) (words : List (List ℕ)) (status : Status) → IsOutcome (steady_call store) silent_call words status → status ≡ statuses.OutsideFault → ⊥
steady_outcome store words status (inl want) e = let both = sym want.ended ∙ e in cc
steady_outcome store words status (inr answered) e = elim answered.left [
  | inl written ↦ allowed_steadily store (command_of words) answered.answer answered.allowed (sym written.ended ∙ e)
  | inr broken ↦ risen_from_none broken.counted
]

-- ---- told files

module _ (file : Files) (steady : List ℕ → Bool) (faults after : ℕ) where
  abbrev call : StoreCall
  call = record { told = Some file; steady = steady; faults = faults; faults_after = after }

  loaded_in : (fs : List Named) (before texts : Texts) → AreLoaded call fs before texts → texts_in file fs before ≡ Ok texts
  loaded_in [] before texts e = ap Ok (sym e)
  loaded_in (f ∷ fs) before texts (bytes, fine, rest) =
      let there : file f.name ≡ Some bytes = fine.holds in
      let test : nat_lt 1048576 (length bytes) ≡ false = grind (arith, nat_tests, fine.short) in
      rw (there, test) (loaded_in fs (with_text f.role bytes before) texts rest)

  stopped_in : (fs : List Named) (before : Texts) (answer : Answer) → status_of answer ≢ statuses.OutsideFault → IsStopped call fs answer → (r : Refusal) × (texts_in file fs before ≡ Err (cases.Refused r)) × (answer ≡ refused r)
  stopped_in [] before answer inside h = absurd h
  stopped_in (f ∷ fs) before answer inside (inl unread) = absurd (inside (ap status_of unread.answered))
  stopped_in (f ∷ fs) before answer inside (inr (inl long)) =
      let there : file f.name ≡ Some long.bytes = long.holds in
      let test : nat_lt 1048576 (length long.bytes) ≡ true = grind (arith, nat_tests, long.long) in
      (refusal f.role F01 1048576, rw (there, test) refl, long.answered)
  stopped_in (f ∷ fs) before answer inside (inr (inr (bytes, fine, rest))) =
      let there : file f.name ≡ Some bytes = fine.holds in
      let test : nat_lt 1048576 (length bytes) ≡ false = grind (arith, nat_tests, fine.short) in
      let (r, e, is) = stopped_in fs (with_text f.role bytes before) answer inside rest in
      (r, rw (there, test) e, is)

  in_call : (c : Command) (answer : Answer) → status_of answer ≢ statuses.OutsideFault → IsAllowedTo call c answer → IsOrRefused (IsRight c.work c.list) (texts_in file (files_of c) no_texts) answer
  in_call c answer inside (inl stopped) = let (r, e, is) = stopped_in (files_of c) no_texts answer inside stopped in rw e is
  in_call c answer inside (inr done) = rw (loaded_in (files_of c) no_texts done.texts done.loaded) done.right

-- an answer is the refusal of a file that is too long, or right on the texts that are told
told_answer : (reads : StoreCall) (file : Files) (c : Command) (answer : Answer) → reads.told ≡ Some file → status_of answer ≢ statuses.OutsideFault → IsAllowedTo reads c answer
    → IsOrRefused (IsRight c.work c.list) (texts_in file (files_of c) no_texts) answer
told_answer reads file c answer told inside allowed =
    let same : reads ≡ call file reads.steady reads.faults reads.faults_after = ap (λ t. record { told = t; steady = reads.steady; faults = reads.faults; faults_after = reads.faults_after }) told in
    in_call file reads.steady reads.faults reads.faults_after c answer inside (subst (λ r. IsAllowedTo r c answer) same allowed)

-- the same where the names are steady, since no fault of the outside is answered then
over_answer : (reads : StoreCall) (file : Files) (c : Command) (answer : Answer) → IsOverFiles reads file c → IsAllowedTo reads c answer
    → IsOrRefused (IsRight c.work c.list) (texts_in file (files_of c) no_texts) answer
over_answer reads file c answer over allowed = told_answer reads file c answer over.told (steady_names_are_read reads c answer over.steady allowed) allowed

-- ---- refusals

same_refusal : (r s : Refusal) → refused r ≡ refused s → r ≡ s
same_refusal r s e =
    let file : r.file ≡ s.file = cc in
    let code : r.code ≡ s.code = cc in
    let at : r.at ≡ s.at = cc in
    ap (λ x. record { file = x; code = r.code; at = r.at }) file ∙ ap (λ x. record { file = s.file; code = x; at = r.at }) code ∙ ap (λ x. record { file = s.file; code = s.code; at = x }) at

exact_refusal : (s : Refusal) (answer : Answer) → answer ≡ refused s → (r : Refusal) → (answer ≡ refused r) ↔ (◌≡◌ {A = Option CaseFault} (Some (cases.Refused s)) (Some (cases.Refused r)))
exact_refusal s answer is r = (λ e. ap (λ x. Some (cases.Refused x)) (same_refusal s r (sym is ∙ e)), λ e. let same : s ≡ r = cc in is ∙ ap refused same)

-- where what is right is no refusal, a refusal is answered exactly where it stands in the place of a value
exact_or : {A : Type 0} (right : A → Answer → Type 0) → ((a : A) (answer : Answer) (r : Refusal) → right a answer → answer ≡ refused r → ⊥) → (read : Result A CaseFault) (answer : Answer)
    → IsOrRefused right read answer → (r : Refusal) → (answer ≡ refused r) ↔ (result_err read ≡ Some (cases.Refused r))
exact_or right never (Err cases.Memory) answer is r = absurd is
exact_or right never (Err (cases.Refused s)) answer is r = exact_refusal s answer is r
exact_or right never (Ok a) answer is r = (λ e. absurd (never a answer r is e), λ e. absurd (cc))

no_verdict : (grid : ℕ) (box : PlainBox) (answer : Answer) (r : Refusal) → IsVerdict grid box answer → answer ≡ refused r → ⊥
no_verdict grid box answer r (inl v) e = let both = sym v.answered ∙ e in cc
no_verdict grid box answer r (inr v) e = let both = sym v.answered ∙ e in cc

module _ (list : List ℕ) where
  exact_replay : (read : Result PlainCase CaseFault) (answer : Answer) → IsOrRefused (IsReplayedCase list) read answer → (r : Refusal)
      → (answer ≡ refused r) ↔ (result_err (read >>= (λ c. durations_of (times_of c) list)) ≡ Some (cases.Refused r))
  exact_replay (Err cases.Memory) answer is r = absurd is
  exact_replay (Err (cases.Refused s)) answer is r = exact_refusal s answer is r
  exact_replay (Ok c) answer is r = exact_or (IsReplay c) (λ ds a s v e. let both = sym v.shown.answered ∙ e in cc) (durations_of (times_of c) list) answer is r

no_task : (p : PlainProblem) (t : PlainTask) (answer : Answer) (r : Refusal) → IsPlannedTask p t answer → answer ≡ refused r → ⊥
no_task p t answer r (inl v) e = let both = sym v.answered ∙ e in cc
no_task p t answer r (inr (inl v)) e = let both = sym v.answered ∙ e in cc
no_task p t answer r (inr (inr v)) e = let both = sym v.answered ∙ e in cc

exact_plan : (read : Result PlainProblem CaseFault) (answer : Answer) → IsOrRefused IsPlannedIn read answer → (r : Refusal) → (answer ≡ refused r) ↔ (result_err (read >>= task_in) ≡ Some (cases.Refused r))
exact_plan (Err cases.Memory) answer is r = absurd is
exact_plan (Err (cases.Refused s)) answer is r = exact_refusal s answer is r
exact_plan (Ok p) answer is r = exact_or (IsPlannedTask p) (no_task p) (task_in p) answer is r

exact_of : (work : Work) (list : List ℕ) (texts : Texts) (answer : Answer) → IsRight work list texts answer → (r : Refusal) → (answer ≡ refused r) ↔ (refusal_on work list texts ≡ Some (cases.Refused r))
exact_of Check list texts answer right r = exact_or (λ c. IsVerdict (grid_of c) (box_of c)) (λ c. no_verdict (grid_of c) (box_of c)) (case_of texts.domain texts.problem texts.plan) answer right r
exact_of Replay list texts answer right r = exact_replay list (case_of texts.domain texts.problem texts.plan) answer right r
exact_of Plan list texts answer right r = exact_plan (problem_of_texts texts.domain texts.problem) answer right r
exact_of (Demo number) list texts answer right r = exact_or (IsShown number) (λ cases a s v e. let both = sym v.answered ∙ e in cc) (demo_cases number) answer right r

exact_in : (work : Work) (list : List ℕ) (read : Result Texts CaseFault) (answer : Answer) → IsOrRefused (IsRight work list) read answer → (r : Refusal) → (answer ≡ refused r) ↔ (refusal_in work list read ≡ Some (cases.Refused r))
exact_in work list (Err cases.Memory) answer is r = absurd is
exact_in work list (Err (cases.Refused s)) answer is r = exact_refusal s answer is r
exact_in work list (Ok texts) answer is r = exact_of work list texts answer is r

pub refusals_are_exact : RefusalsAreExact
refusals_are_exact reads file c answer over allowed r = exact_in c.work c.list (texts_in file (files_of c) no_texts) answer (over_answer reads file c answer over allowed) r

-- ---- the headline

-- a fact of a case is one of the case that is read
of_read : (P : PlainCase → Type 0) (c : PlainCase) → P c → (made : PlainCase) → ◌≡◌ {A = Result PlainCase CaseFault} (Ok c) (Ok made) → P made
of_read P c h made e = let same : c ≡ made = cc in subst P same h

abbrev Strong : PlainCase → Type 0
Strong c = IsStrongPlan c.problem c.steps

headline_strong : (c : PlainCase) (answer : Answer) → IsStrongVerdict (grid_of c) (box_of c) answer → IsHeadline (Ok c) answer
headline_strong c answer v = record {
  refusals = λ r e. absurd (cc);
  exact = of_read (λ m. SaysStrong answer ↔ Strong m) c (λ says. v.strong, λ strong. record { steps = _; uncertain = _; events = _; grid = _; answered = v.answered });
  done = of_read (λ m. (status_of answer ≡ statuses.Done) ↔ Strong m) c (λ e. v.strong, λ strong. ap status_of v.answered);
  strong = of_read (λ m. Strong m → IsStrongVerdict (grid_of m) (box_of m) answer) c (λ strong. v);
  weak = of_read (λ m. (Strong m → ⊥) → IsWeakVerdict (grid_of m) (box_of m) answer) c (λ weak. absurd (weak v.strong));
}

headline_weak : (c : PlainCase) (answer : Answer) → IsWeakVerdict (grid_of c) (box_of c) answer → IsHeadline (Ok c) answer
headline_weak c answer v = record {
  refusals = λ r e. absurd (cc);
  exact = of_read (λ m. SaysStrong answer ↔ Strong m) c (λ says. let both = sym v.answered ∙ says.answered in absurd (cc), λ strong. absurd (v.weak strong));
  done = of_read (λ m. (status_of answer ≡ statuses.Done) ↔ Strong m) c (λ e. let both : statuses.No ≡ statuses.Done = sym (ap status_of v.answered) ∙ e in absurd (cc), λ strong. absurd (v.weak strong));
  strong = of_read (λ m. Strong m → IsStrongVerdict (grid_of m) (box_of m) answer) c (λ strong. absurd (v.weak strong));
  weak = of_read (λ m. (Strong m → ⊥) → IsWeakVerdict (grid_of m) (box_of m) answer) c (λ weak. v);
}

headline_on : (read : Result PlainCase CaseFault) (answer : Answer) → IsOrRefused (λ c. IsVerdict (grid_of c) (box_of c)) read answer → IsHeadline read answer
headline_on (Err cases.Memory) answer is = absurd is
headline_on (Err (cases.Refused r)) answer is = record {
  refusals = λ s e. let same : r ≡ s = cc in is ∙ ap refused same;
  exact = λ made e. absurd (cc);
  done = λ made e. absurd (cc);
  strong = λ made e. absurd (cc);
  weak = λ made e. absurd (cc);
}
headline_on (Ok c) answer (inl v) = headline_strong c answer v
headline_on (Ok c) answer (inr v) = headline_weak c answer v

verdict_in : (read : Result Texts CaseFault) (answer : Answer) → IsOrRefused IsChecked read answer → IsOrRefused (λ c. IsVerdict (grid_of c) (box_of c)) (read >>= (λ texts. case_of texts.domain texts.problem texts.plan)) answer
verdict_in (Err cases.Memory) answer is = is
verdict_in (Err (cases.Refused r)) answer is = is
verdict_in (Ok texts) answer is = is

checked_in : (file : Files) (c : Command) (answer : Answer) → c.work ≡ Check → IsOrRefused (IsRight c.work c.list) (texts_in file (files_of c) no_texts) answer
    → IsOrRefused (λ made. IsVerdict (grid_of made) (box_of made)) (case_in file c) answer
checked_in file c answer work right =
    verdict_in (texts_in file (files_of c) no_texts) answer
    (subst (λ w. IsOrRefused (IsRight w c.list) (texts_in file (files_of c) no_texts) answer) work right)

verdict_of_check : (reads : StoreCall) (file : Files) (c : Command) (answer : Answer) → IsCheck reads file c → IsAllowedTo reads c answer
    → IsOrRefused (λ made. IsVerdict (grid_of made) (box_of made)) (case_in file c) answer
verdict_of_check reads file c answer check allowed = checked_in file c answer check.work (over_answer reads file c answer check.over allowed)

pub checks_meet_the_headline : ChecksMeetTheHeadline
checks_meet_the_headline reads file c answer check allowed = headline_on (case_in file c) answer (verdict_of_check reads file c answer check allowed)

pub strong_is_exact : StrongIsExact
strong_is_exact reads file c made answer check accepted allowed = (checks_meet_the_headline reads file c answer check allowed).exact made accepted

pub checks_are_of_texts : ChecksAreOfTexts
checks_are_of_texts reads c answer work (inl stopped) = inl stopped
checks_are_of_texts reads c answer work (inr done) =
    inr (done.texts, done.loaded, headline_on (case_of done.texts.domain done.texts.problem done.texts.plan) answer (subst (λ w. IsRight w c.list done.texts answer) work done.right))

-- an answer that is no want of memory and no fault of the outside was written whole, and is the one of the headline
pub headline_of_outcome : (reads : StoreCall) (writes : SinkCall) (words : List (List ℕ)) (status : Status) → IsOutcome reads writes words status → IsHeadlineOf reads writes words status
headline_of_outcome reads writes words status (inl want) file c is work told remembered inside = absurd (remembered want.ended)
headline_of_outcome reads writes words status (inr answered) file c is work told remembered inside =
    let allowed : IsAllowedTo reads c answered.answer = rw is at answered.allowed in
    elim answered.left [
      | inl written ↦ (
        answered.answer,
        headline_on (case_in file c) answered.answer (checked_in file c answered.answer work (told_answer reads file c answered.answer told (λ e. inside (written.ended ∙ e)) allowed)),
        written,
      )
      | inr broken ↦ absurd (inside broken.ended)
    ]

-- where names are steady and no write fails, no fault of the outside is left
pub complete_outcome : (reads : StoreCall) (writes : SinkCall) (words : List (List ℕ)) (status : Status) → IsOutcome reads writes words status → IsComplete reads writes words status
complete_outcome reads writes words status (inl want) c is all whole e = let both = sym want.ended ∙ e in cc
complete_outcome reads writes words status (inr answered) c is all whole e =
    let allowed : IsAllowedTo reads c answered.answer = rw is at answered.allowed in
    elim answered.left [
      | inl written ↦ steady_names_are_read reads c answered.answer all allowed (sym written.ended ∙ e)
      | inr broken ↦ whole broken.counted
    ]

-- ---- the headline of plans

module _ (p : PlainProblem) (t : PlainTask) where
  -- where the goal is possible in one least closed pair, it is in each
  possible_in_each : (one other : Pair) → IsLeastClosed t one → IsLeastClosed t other → possible one t.goal ≡ true → possible other t.goal ≡ true
  possible_in_each one other v w h = possible_grows one other (v.least other w.closed) t.goal h

  -- where a certificate is given for the task of a problem in an arena, no run of a plan executes
  hopeless_by : (problem : Problem) → problem_of problem ≡ p → (pair : Pair) → HasPlainSimpleActions p → task_or_fault p ≡ Ok t → IsCertificate t pair → IsHopeless p
  hopeless_by problem same pair simple grounded certificate =
      no_run_of_the_plan p t pair (record { simple = simple; grounded = grounded; certificate = certificate })
      (subst HasProperEvents same (events_are_proper problem))

  plan_answer : HasPlainSimpleActions p → task_or_fault p ≡ Ok t → (answer : Answer) → IsPlannedTask p t answer → IsPlanAnswer p t answer
  plan_answer simple grounded answer (inl v) = record {
    empty = (λ e. v.strong, λ strong. v.answered);
    unreachable = (λ says. let both = sym v.answered ∙ says.answered in absurd (cc), λ (pair, least, impossible). let both : true ≡ false = sym (v.may_hold pair least.closed) ∙ impossible in absurd (cc));
    certified = λ says. let both = sym v.answered ∙ says.answered in absurd (cc);
    hopeless = λ says. let both = sym v.answered ∙ says.answered in absurd (cc);
    spent = (λ e. let both = sym v.answered ∙ e in absurd (cc), λ (weak, h). absurd (weak v.strong));
  }
  plan_answer simple grounded answer (inr (inl v)) = record {
    empty = (λ e. let both = sym v.answered ∙ e in absurd (cc), λ strong. absurd (v.weak strong));
    unreachable = (λ says. (pair_of v.certificate.now, v.least, v.impossible), λ h. record { problem = v.problem; task = v.task; certificate = v.certificate; answered = v.answered });
    certified = λ says. v;
    hopeless = λ says. hopeless_by v.problem.now v.of_problem (pair_of v.certificate.now) simple grounded (record { closed = v.least.closed; impossible = v.impossible });
    spent = (
      λ e. let both = sym v.answered ∙ e in absurd (cc),
      λ (weak, (pair, least, may_hold)). let both : true ≡ false = sym (possible_in_each pair (pair_of v.certificate.now) least v.least may_hold) ∙ v.impossible in absurd (cc),
    );
  }
  plan_answer simple grounded answer (inr (inr v)) = record {
    empty = (λ e. let both = sym v.answered ∙ e in absurd (cc), λ strong. absurd (v.weak strong));
    unreachable = (
      λ says. let both = sym v.answered ∙ says.answered in absurd (cc),
      λ (pair, least, impossible). let both : true ≡ false = sym (possible_in_each (pair_of v.certificate) pair v.least least v.may_hold) ∙ impossible in absurd (cc),
    );
    certified = λ says. let both = sym v.answered ∙ says.answered in absurd (cc);
    hopeless = λ says. let both = sym v.answered ∙ says.answered in absurd (cc);
    spent = (λ e. (v.weak, (pair_of v.certificate, v.least, v.may_hold)), λ h. v.answered);
  }

plan_headline_on : (read : Result PlainProblem CaseFault) → ((p : PlainProblem) → read ≡ Ok p → HasPlainSimpleActions p) → (answer : Answer) → IsOrRefused IsPlannedIn read answer → IsPlanHeadline read answer
plan_headline_on (Err cases.Memory) simple answer is = absurd is
plan_headline_on (Err (cases.Refused r)) simple answer is = record {
  refusals = λ s e. let same : r ≡ s = cc in is ∙ ap refused same;
  answers = λ p t e. absurd (cc);
}
plan_headline_on (Ok p) simple answer is = record {
  refusals = λ r e. subst (λ x. IsOrRefused (IsPlannedTask p) x answer) e is;
  answers = λ q t e f.
      let same : p ≡ q = cc in
      plan_answer q t (simple q e) (no_fault ground_fault (task_or_fault q) t f) answer (subst (λ x. IsOrRefused (IsPlannedTask q) x answer) f (subst (λ z. IsPlannedIn z answer) same is));
}

-- the problem of a command's files is one that was read
simple_in : (file : Files) (c : Command) (p : PlainProblem) → problem_in file c ≡ Ok p → HasPlainSimpleActions p
simple_in file c p e =
    let (texts, loaded, read) = bound (texts_in file (files_of c) no_texts) (λ texts. problem_of_texts texts.domain texts.problem) p e in
    simple_actions_are_plain texts.domain texts.problem p read

planned_texts : (read : Result Texts CaseFault) (answer : Answer) → IsOrRefused IsPlanned read answer → IsOrRefused IsPlannedIn (read >>= (λ texts. problem_of_texts texts.domain texts.problem)) answer
planned_texts (Err cases.Memory) answer is = is
planned_texts (Err (cases.Refused r)) answer is = is
planned_texts (Ok texts) answer is = is

planned_in : (file : Files) (c : Command) (answer : Answer) → c.work ≡ Plan → IsOrRefused (IsRight c.work c.list) (texts_in file (files_of c) no_texts) answer → IsOrRefused IsPlannedIn (problem_in file c) answer
planned_in file c answer work right =
    planned_texts (texts_in file (files_of c) no_texts) answer
    (subst (λ w. IsOrRefused (IsRight w c.list) (texts_in file (files_of c) no_texts) answer) work right)

pub plans_meet_the_headline : PlansMeetTheHeadline
plans_meet_the_headline reads file c answer work over allowed = plan_headline_on (problem_in file c) (simple_in file c) answer (planned_in file c answer work (over_answer reads file c answer over allowed))

-- an answer that is no want of memory and no fault of the outside was written whole, and is the one of the headline
pub plan_headline_of_outcome : (reads : StoreCall) (writes : SinkCall) (words : List (List ℕ)) (status : Status) → IsOutcome reads writes words status → IsPlanHeadlineOf reads writes words status
plan_headline_of_outcome reads writes words status (inl want) file c is work told remembered inside = absurd (remembered want.ended)
plan_headline_of_outcome reads writes words status (inr answered) file c is work told remembered inside =
    let allowed : IsAllowedTo reads c answered.answer = rw is at answered.allowed in
    elim answered.left [
      | inl written ↦ (
        answered.answer,
        plan_headline_on (problem_in file c) (simple_in file c) answered.answer (planned_in file c answered.answer work (told_answer reads file c answered.answer told (λ e. inside (written.ended ∙ e)) allowed)),
        written,
      )
      | inr broken ↦ absurd (inside broken.ended)
    ]

-- ---- the headline of demos

demo_headline_on : (number : ℕ) (read : Result TwoCases CaseFault) (answer : Answer) → IsOrRefused (IsShown number) read answer → IsDemoHeadline number read answer
demo_headline_on number (Err cases.Memory) answer is = absurd is
demo_headline_on number (Err (cases.Refused r)) answer is = record {
  refusals = λ s e. let same : r ≡ s = cc in is ∙ ap refused same;
  shown = λ two e. absurd (cc);
}
demo_headline_on number (Ok made) answer is = record {
  refusals = λ r e. absurd (cc);
  shown = λ two e. let same : made ≡ two = cc in subst (λ x. IsShown number x answer) same is;
}

-- a demo names no file, so none stops it
demo_answer : (reads : StoreCall) (c : Command) (answer : Answer) (number : ℕ) → c.work ≡ Demo number → IsAllowedTo reads c answer → IsDemo number answer
demo_answer reads c answer number work (inl stopped) = absurd (subst (λ w. IsStopped reads (named_of (roles_of w) c.names) answer) work stopped)
demo_answer reads c answer number work (inr done) = subst (λ w. IsRight w c.list done.texts answer) work done.right

-- an answer that is no want of memory and no fault of the outside was written whole, and is the one of the headline
pub demo_headline_of_outcome : (reads : StoreCall) (writes : SinkCall) (words : List (List ℕ)) (status : Status) → IsOutcome reads writes words status → IsDemoHeadlineOf writes words status
demo_headline_of_outcome reads writes words status (inl want) number c is work remembered inside = absurd (remembered want.ended)
demo_headline_of_outcome reads writes words status (inr answered) number c is work remembered inside =
    let allowed : IsAllowedTo reads c answered.answer = rw is at answered.allowed in
    elim answered.left [
      | inl written ↦ (answered.answer, demo_headline_on number (demo_cases number) answered.answer (demo_answer reads c answered.answer number work allowed), written)
      | inr broken ↦ absurd (inside broken.ended)
    ]

-- ---- one text

weak_text : ℕ → List ℕ → Fault → List ℕ
weak_text grid durations fault = line (codes "not strong") ++ line (codes "durations " ++ durations_text grid durations) ++ fault_line grid fault

one_weak_text : (grid : ℕ) (box : PlainBox) (one other : Answer) → IsWeakVerdict grid box one → IsWeakVerdict grid box other → text_of one ≡ text_of other
unfolding weak_text
one_weak_text grid box one other v w =
    let ds : v.durations.now ≡ w.durations.now = least_failure_is_one box v.durations.now w.durations.now v.least w.least in
    let f : v.fault ≡ w.fault = first_fault_is_one (run_under box w.durations.now) v.fault w.fault (subst (λ d. IsFirstFault (run_under box d) v.fault) ds v.first) w.first in
    ap text_of v.answered ∙ ap (λ d. weak_text grid d v.fault) ds ∙ ap (weak_text grid w.durations.now) f ∙ sym (ap text_of w.answered)

abbrev pub AreAlike : Answer → Answer → Type 0
AreAlike one other = (text_of one ≡ text_of other) × (status_of one ≡ status_of other)

pub alike : (one other answer : Answer) → one ≡ answer → other ≡ answer → AreAlike one other
alike one other answer e f = let same : one ≡ other = e ∙ sym f in (ap text_of same, ap status_of same)

one_verdict : (grid : ℕ) (box : PlainBox) (one other : Answer) → IsVerdict grid box one → IsVerdict grid box other → AreAlike one other
one_verdict grid box one other (inl v) (inl w) = alike one other _ v.answered w.answered
one_verdict grid box one other (inl v) (inr w) = absurd (w.weak v.strong)
one_verdict grid box one other (inr v) (inl w) = absurd (v.weak w.strong)
one_verdict grid box one other (inr v) (inr w) = (one_weak_text grid box one other v w, ap status_of v.answered ∙ sym (ap status_of w.answered))

pub one_answer : (read : Result PlainCase CaseFault) (one other : Answer) → IsOrRefused (λ c. IsVerdict (grid_of c) (box_of c)) read one → IsOrRefused (λ c. IsVerdict (grid_of c) (box_of c)) read other → AreAlike one other
one_answer (Err cases.Memory) one other v w = absurd v
one_answer (Err (cases.Refused r)) one other v w = alike one other (refused r) v w
one_answer (Ok c) one other v w = one_verdict (grid_of c) (box_of c) one other v w

pub checks_have_one_text : ChecksHaveOneText
checks_have_one_text reads file c one other check v w = one_answer (case_in file c) one other (verdict_of_check reads file c one check v) (verdict_of_check reads file c other check w)
