-- Answers that are right on one command's texts are printed alike.
use Rattle.std.proofs.Common.{◌≡◌, ℕ, Bool, true, false, inl, inr, zero, suc, ◌*◌, ◌-◌, ◌/◌, ◌<◌, ◌≤◌, List, length, map, Option, Some, None, Result, Ok, Err, Bor, refl, sym, ap, subst, ◌∙◌, arith}
use Rattle.std.specs.Prelude.{slice_get}
use Rattle.std.proofs.Math.Logic.{∥∥₁_elim}
use Rattle.std.proofs.Math.Nat.{mul-div_cancel_left}
use Rattle.std.proofs.Props.{props}
use Rattle.stp_base.specs.declared.ids.AtomId.{AtomId}
use Rattle.stp_cond.specs.Atoms.{has, set_of}
use Rattle.stp_cond.specs.Views.{atoms_of}
use Rattle.stp_cond.proofs.Rising.{same_sets}
use Rattle.stp_frac.specs.Fractions.{Fraction}
use Rattle.stp_schema.specs.Views.{PlainProblem, problem_of}
use Rattle.stp_task.specs.CertificateViews.{pair_of}
use Rattle.stp_task.specs.Certificates.{IsLeastClosed, Pair, possible}
use Rattle.stp_task.specs.Tasks.{PlainTask}
use Rattle.stp_relax.proofs.Growing.{possible_grows}
use Rattle.stp_report.specs.NoPlan.{unreachable_text}
use Rattle.stp_happen.specs.Boxes.{PlainBox, run_under, finer_box}
use Rattle.stp_happen.specs.Plain.{PlainRun}
use Rattle.stp_happen.specs.declared.fault.Fault.{Fault}
use Rattle.stp_happen.specs.declared.run.Run.{Run}
use Rattle.stp_happen.proofs.FirstFaults.{first_faults_mean_failure}
use Rattle.stp_happen.proofs.LeastFailures.{least_failure_is_one}
use Rattle.stp_happen.proofs.OneFault.{first_fault_is_one}
use Rattle.stp_happen.specs.Faults.{IsFirstFault}
use Rattle.stp_exec.specs.Timed.{count_of}
use Rattle.stp_exec.specs.Fitting.{grid_with}
use Rattle.stp_report.specs.declared.answer.Answer.{Answer}
use Rattle.stp_report.specs.declared.answer.Answer.TheVariants as answers
use Rattle.stp_report.specs.declared.answer.Failure.{Failure}
use Rattle.stp_report.specs.declared.answer.Summary.{Summary}
use Rattle.stp_report.specs.Texts.{text_of}
use Rattle.stp_report.proofs.OneText.{replays_have_one_text}
use Rattle.stp_cli.specs.declared.refusal.CaseFault.{CaseFault}
use Rattle.stp_cli.specs.declared.refusal.CaseFault.TheVariants as faults
use Rattle.stp_cli.specs.declared.words.Work.TheVariants.{Check, Replay, Plan, Demo}
use Rattle.stp_cli.specs.Refusals.{refused, IsOrRefused}
use Rattle.stp_cli.specs.Case.{PlainCase, case_of, problem_of_texts, task_in, times_of, grid_of, box_of}
use Rattle.stp_cli.specs.Answers.{IsPlannedIn}
use Rattle.stp_cli.specs.Planned.{IsPlannedTask, IsUnreachable}
use Rattle.stp_cli.specs.Demo.{IsFailing, IsJudged, IsSummary, TwoCases, demo_cases, IsShown}
use Rattle.stp_cli.specs.Replay.{IsJudgedBy, IsRunWith, IsReplay, IsReplayedCase, durations_of}
use Rattle.stp_cli.specs.Replies.{status_of}
use Rattle.stp_cli.specs.Headline.{RightAnswersHaveOneText}
use Rattle.stp_cli.proofs.Headlines.{AreAlike, alike, one_answer}

-- ---- runs

one_judged : (run : PlainRun) (fault other : Option Fault) → IsJudgedBy run fault → IsJudgedBy run other → fault ≡ other
one_judged run None None h k = refl
one_judged run None (Some f) h k = absurd (first_faults_mean_failure run f k h)
one_judged run (Some f) None h k = absurd (first_faults_mean_failure run f h k)
one_judged run (Some f) (Some g) h k = ap Some (first_fault_is_one run f g h k)

one_run : (grid : ℕ) (box : PlainBox) (durations : List ℕ) (one other : Answer) → IsRunWith grid box durations one → IsRunWith grid box durations other → AreAlike one other
one_run grid box durations one other v w =
    let plain = run_under box durations in
    let fault : v.fault ≡ w.fault = one_judged plain v.fault w.fault v.judged w.judged in
    let texts : text_of (answers.Replay v.run w.fault) ≡ text_of (answers.Replay w.run w.fault) = replays_have_one_text v.run w.run plain w.fault (v.on_grid ∙ sym w.on_grid) v.same w.same in
    let first : one ≡ answers.Replay v.run w.fault = v.answered ∙ ap (answers.Replay v.run) fault in
    let same : status_of (answers.Replay v.run w.fault) ≡ status_of (answers.Replay w.run w.fault) = same_status v.run w.run w.fault in
    (ap text_of first ∙ texts ∙ sym (ap text_of w.answered), ap status_of first ∙ same ∙ sym (ap status_of w.answered))
  where
    same_status : (run run' : Bor Run) (f : Option Fault) → status_of (answers.Replay run f) ≡ status_of (answers.Replay run' f)
    same_status run run' None = refl
    same_status run run' (Some f) = refl

-- ---- one factor, since no run has a grid of 0

grid_low : (run : Run) → 1 ≤ run.grid
grid_low run = ∥∥₁_elim run.sound (Prim.hlevel props) (λ s. s.grid_low)

some_grid : (g k n : ℕ) → g * k ≡ n → 1 ≤ n → 0 < g
some_grid zero k n e h = absurd (omega (arith, e, h))
some_grid (suc g) k n e h = omega arith

one_factor : (g k m n : ℕ) → g * k ≡ n → g * m ≡ n → 1 ≤ n → k ≡ m
one_factor g k m n e f h =
    let some : 0 < g = some_grid g k n e h in
    sym (mul-div_cancel_left k some) ∙ ap (λ x. x / g) (e ∙ sym f) ∙ mul-div_cancel_left m some

one_replay : (c : PlainCase) (ds : List Fraction) (one other : Answer) → IsReplay c ds one → IsReplay c ds other → AreAlike one other
one_replay c ds one other v w =
    let grid = grid_with (times_of c) ds in
    let low : 1 ≤ grid = subst (λ n. 1 ≤ n) v.shown.on_grid (grid_low v.shown.run.now) in
    let same : v.factor ≡ w.factor = one_factor (grid_of c) v.factor w.factor grid v.finer w.finer low in
    one_run grid (finer_box w.factor (box_of c)) (map (count_of grid) ds) one other (subst (λ k. IsRunWith grid (finer_box k (box_of c)) (map (count_of grid) ds) one) same v.shown) w.shown

-- ---- certificates

same_test : (b c : Bool) → (b ≡ true → c ≡ true) → (c ≡ true → b ≡ true) → b ≡ c
same_test true c h k = sym (h refl)
same_test false true h k = k refl
same_test false false h k = refl

same_atoms : (one other : List AtomId) → set_of (atoms_of one) ≡ atoms_of one → set_of (atoms_of other) ≡ atoms_of other → ((a : ℕ) → has (atoms_of one) a ≡ has (atoms_of other) a) → atoms_of one ≡ atoms_of other
same_atoms one other e f same = sym e ∙ same_sets (atoms_of one) (atoms_of other) same ∙ f

one_unreachable : (p : PlainProblem) (t : PlainTask) (one other : Answer) → IsUnreachable p t one → IsUnreachable p t other → AreAlike one other
one_unreachable p t one other v w =
    let c = v.certificate.now in
    let d = w.certificate.now in
    let there = v.least.least (pair_of d) w.least.closed in
    let back = w.least.least (pair_of c) v.least.closed in
    let may : atoms_of c.may ≡ atoms_of d.may = same_atoms c.may d.may c.may_once d.may_once (λ a. same_test (has (atoms_of c.may) a) (has (atoms_of d.may) a) (there.may a) (back.may a)) in
    let always : atoms_of c.always ≡ atoms_of d.always = same_atoms c.always d.always c.always_once d.always_once (λ a. same_test (has (atoms_of c.always) a) (has (atoms_of d.always) a) (back.always a) (there.always a)) in
    let problem : problem_of v.problem.now ≡ problem_of w.problem.now = v.of_problem ∙ sym w.of_problem in
    let atoms : v.task.now.atoms ≡ w.task.now.atoms = ap (λ (x : PlainTask). x.atoms) (v.of_task ∙ sym w.of_task) in (
      ap text_of v.answered
          ∙ ap (λ x. unreachable_text x v.task.now.atoms (atoms_of c.may) (atoms_of c.always)) problem
          ∙ ap (λ x. unreachable_text (problem_of w.problem.now) x (atoms_of c.may) (atoms_of c.always)) atoms
          ∙ ap (λ x. unreachable_text (problem_of w.problem.now) w.task.now.atoms x (atoms_of c.always)) may
          ∙ ap (λ x. unreachable_text (problem_of w.problem.now) w.task.now.atoms (atoms_of d.may) x) always
          ∙ sym (ap text_of w.answered),
      ap status_of v.answered ∙ sym (ap status_of w.answered),
    )

-- a goal that is impossible in one least closed pair may not hold in another
never_both : (t : PlainTask) (one other : Pair) → IsLeastClosed t one → IsLeastClosed t other → possible one t.goal ≡ false → possible other t.goal ≡ true → ⊥
never_both t one other v w impossible may_hold = let both : false ≡ true = sym impossible ∙ possible_grows other one (w.least one v.closed) t.goal may_hold in cc

one_planned : (p : PlainProblem) (t : PlainTask) (one other : Answer) → IsPlannedTask p t one → IsPlannedTask p t other → AreAlike one other
one_planned p t one other (inl v) (inl w) = alike one other answers.EmptyPlan v.answered w.answered
one_planned p t one other (inl v) (inr (inl w)) = absurd (w.weak v.strong)
one_planned p t one other (inl v) (inr (inr w)) = absurd (w.weak v.strong)
one_planned p t one other (inr (inl v)) (inl w) = absurd (v.weak w.strong)
one_planned p t one other (inr (inl v)) (inr (inl w)) = one_unreachable p t one other v w
one_planned p t one other (inr (inl v)) (inr (inr w)) = absurd (never_both t (pair_of v.certificate.now) (pair_of w.certificate) v.least w.least v.impossible w.may_hold)
one_planned p t one other (inr (inr v)) (inl w) = absurd (v.weak w.strong)
one_planned p t one other (inr (inr v)) (inr (inl w)) = absurd (never_both t (pair_of w.certificate.now) (pair_of v.certificate) w.least v.least w.impossible v.may_hold)
one_planned p t one other (inr (inr v)) (inr (inr w)) = alike one other answers.BudgetSpent v.answered w.answered

-- ---- demos

one_failing : (box : PlainBox) (f g : Failure) → IsFailing box f → IsFailing box g → f ≡ g
one_failing box f g v w =
    let durations : v.durations ≡ w.durations = least_failure_is_one box v.durations w.durations v.least w.least in
    let last : f.last ≡ g.last = v.last ∙ ap (λ (ds : List ℕ). slice_get ds (length ds - 1)) durations ∙ sym w.last in
    let fault : f.fault ≡ g.fault = first_fault_is_one (run_under box w.durations) f.fault g.fault (subst (λ ds. IsFirstFault (run_under box ds) f.fault) durations v.first) w.first in
    ap (λ x. record { last = x; fault = f.fault }) last ∙ ap (λ x. record { last = g.last; fault = x }) fault

one_failure : (box : PlainBox) (one other : Option Failure) → IsJudged box one → IsJudged box other → one ≡ other
one_failure box None None v w = refl
one_failure box None (Some g) v w = absurd (w.weak v)
one_failure box (Some f) None v w = absurd (v.weak w)
one_failure box (Some f) (Some g) v w = ap Some (one_failing box f g v w)

one_summary : (grid : ℕ) (box : PlainBox) (s t : Summary) → IsSummary grid box s → IsSummary grid box t → s ≡ t
one_summary grid box s t v w =
    ap (λ x. record { steps = x; uncertain = s.uncertain; grid = s.grid; failure = s.failure }) (v.steps ∙ sym w.steps)
    ∙ ap (λ x. record { steps = t.steps; uncertain = x; grid = s.grid; failure = s.failure }) (v.uncertain ∙ sym w.uncertain)
    ∙ ap (λ x. record { steps = t.steps; uncertain = t.uncertain; grid = x; failure = s.failure }) (v.on_grid ∙ sym w.on_grid)
    ∙ ap (λ x. record { steps = t.steps; uncertain = t.uncertain; grid = t.grid; failure = x }) (one_failure box s.failure t.failure v.judged w.judged)

one_shown : (number : ℕ) (cases : TwoCases) (one other : Answer) → IsShown number cases one → IsShown number cases other → AreAlike one other
one_shown number cases one other v w =
    let plan : v.plan ≡ w.plan = one_summary (grid_of cases.plan) (box_of cases.plan) v.plan w.plan v.of_plan w.of_plan in
    let spoiled : v.spoiled ≡ w.spoiled = one_summary (grid_of cases.spoiled) (box_of cases.spoiled) v.spoiled w.spoiled v.of_spoiled w.of_spoiled in
    alike one other (answers.Demo number w.plan w.spoiled) (v.answered ∙ ap (λ s. answers.Demo number s v.spoiled) plan ∙ ap (answers.Demo number w.plan) spoiled) w.answered

-- ---- answers

alike_or : {A : Type 0} (right : A → Answer → Type 0) → ((a : A) (one other : Answer) → right a one → right a other → AreAlike one other) → (read : Result A CaseFault) (one other : Answer)
    → IsOrRefused right read one → IsOrRefused right read other → AreAlike one other
alike_or right each (Err faults.Memory) one other v w = absurd v
alike_or right each (Err (faults.Refused r)) one other v w = alike one other (refused r) v w
alike_or right each (Ok a) one other v w = each a one other v w

one_replayed : (list : List ℕ) (c : PlainCase) (one other : Answer) → IsReplayedCase list c one → IsReplayedCase list c other → AreAlike one other
one_replayed list c = alike_or (IsReplay c) (one_replay c) (durations_of (times_of c) list)

pub right_answers_have_one_text : RightAnswersHaveOneText
right_answers_have_one_text Check list texts one other v w = one_answer (case_of texts.domain texts.problem texts.plan) one other v w
right_answers_have_one_text Replay list texts one other v w = alike_or (IsReplayedCase list) (one_replayed list) (case_of texts.domain texts.problem texts.plan) one other v w
right_answers_have_one_text Plan list texts one other v w = alike_or IsPlannedIn (λ p. alike_or (IsPlannedTask p) (one_planned p) (task_in p)) (problem_of_texts texts.domain texts.problem) one other v w
right_answers_have_one_text (Demo number) list texts one other v w = alike_or (IsShown number) (one_shown number) (demo_cases number) one other v w
