-- Where there is a certificate for the task of a problem, no run of a plan executes.
use Rattle.std.proofs.Common.{◌≡◌, ℕ, ◌+◌, ◌-◌, ◌*◌, ◌<◌, ◌≤◌, nat_lt, Bool, true, false, ◌&&◌, if◌then◌else◌, List, [], ◌∷◌, length, map, drop, flat_map, Contains, Option, Some, None, Result, Ok, Err, refl, sym, ap, ◌∙◌, subst, arith, true≢false}
use Rattle.std.specs.Prelude.{All, slice_index}
use Rattle.std.specs.List.{list_all, list_any}
use Rattle.std.proofs.lemmas.Bool.Decides.{nat_tests}
use Rattle.std.proofs.lemmas.List.Elements.{All-head, All-tail}
use Rattle.stp_base.specs.declared.limits.TheConstants.{MAX_ACTIONS, MAX_BINDINGS}
use Rattle.stp_frac.specs.Fractions.{Fraction}
use Rattle.stp_frac.proofs.Divisors.{both_true, left_true, right_true}
use Rattle.stp_schema.specs.Timed.{is_chosen}
use Rattle.stp_schema.specs.Views.{PlainProblem}
use Rattle.stp_happen.specs.Boxes.{PlainOwner, IsVector, finer_box, finer_owner}
use Rattle.stp_happen.proofs.Members.{all_pass, any_passes, each_mapped, each_of, here, mapped_member, there}
use Rattle.stp_task.specs.Certificates.{IsCertificate, Pair}
use Rattle.stp_task.specs.Durations as durations
use Rattle.stp_task.specs.Durations.{PlainDuration, lasts}
use Rattle.stp_task.specs.Tasks.{PlainTask}
use Rattle.stp_kept.specs.declared.fault.GroundFault.{GroundFault}
use Rattle.stp_kept.specs.declared.fault.GroundFault.TheVariants.{TooManyActions, TooManyBindings, UncontrollableEvent}
use Rattle.stp_kept.specs.Counts.{binding_count}
use Rattle.stp_kept.specs.Instances.{kept}
use Rattle.stp_kept.specs.KeptTasks.{refusal, refusal_of_instances, task_of, unless_refused}
use Rattle.stp_exec.specs.GridLaws.{are_proper, is_proper, is_proper_event, lie_on}
use Rattle.stp_exec.specs.Held.{PlainHeld, Instant, Fixed, Open}
use Rattle.stp_exec.specs.Placed.{PlainPlaced, step_times, times_of}
use Rattle.stp_exec.specs.Plans.{IsPlan, IsReduced, IsStepOf, box_on, grid_of_plan, numbers_of}
use Rattle.stp_exec.specs.Timed.{all_denominators, denominators, event_denominators, moments_of}
use Rattle.stp_exec.specs.Times.{fits, is_open}
use Rattle.stp_exec.proofs.Joining.{append_positive}
use Rattle.stp_exec.proofs.LeastGrids.{times_lie_on_the_base_grid}
use Rattle.stp_exec.proofs.Multiples.{Positive, common_pos}
use Rattle.stp_relax.proofs.Impossible.{certificates_hold}
use Rattle.stp_unreachable.specs.PlansOf.{HasProperEvents, IsUnreachable, NoPlanIsStrong, NoPlanRuns, NoRunOfThePlan, NoRunOnAGrid}
use Rattle.stp_unreachable.proofs.PlanTasks.{plan_certificate, plan_pair, plan_task}
use Rattle.stp_unreachable.proofs.PlanBoxes.{each_owner, lasts_finer, plan_box}

-- ---- runs on a grid

abbrev Answer : Type 0
Answer = Result PlainTask GroundFault

same_task : (task answer : PlainTask) (r : Answer) → r ≡ Ok task → r ≡ Ok answer → answer ≡ task
same_task task answer r e f = cc

no_task : (fault : GroundFault) (answer : PlainTask) (r : Answer) → r ≡ Err fault → r ≡ Ok answer → ⊥
no_task fault answer r e f = cc

-- a problem with a task is not refused, and its task is the task of its instances
task_at : (task answer : PlainTask) (refused : Option GroundFault) → unless_refused refused task ≡ Ok answer → (refused ≡ None) × (answer ≡ task)
task_at task answer None e = (refl, same_task task answer (unless_refused None task) refl e)
task_at task answer (Some fault) e = absurd (no_task fault answer (unless_refused (Some fault) task) refl e)

pub no_run_on_a_grid : NoRunOnAGrid
no_run_on_a_grid p task pair u steps plan grid pg lie k pk ds v x =
    let cert = subst (λ t. IsCertificate t pair) (task_at (task_of p) task (refusal p) u.grounded).1 u.certificate in
    certificates_hold (plan_task p steps) (plan_pair p steps pair) (plan_certificate p steps plan pair cert) (finer_box k (box_on grid p steps)) (plan_box p steps plan u.simple grid pg lie k pk) ds v x

-- ---- the base grid

pub above_test : (n : ℕ) → 0 < n → nat_lt 0 n ≡ true
above_test n h = grind (arith, nat_tests)

above_none : (n : ℕ) → nat_lt 0 n ≡ true → 0 < n
above_none n h = grind (arith, nat_tests)

proper_held : (start : Fraction) (held : PlainHeld) → All IsReduced (start ∷ numbers_of held) → is_proper (record { start = start; held = held }) ≡ true
proper_held start Instant h = both_true (nat_lt 0 start.bottom) true (above_test start.bottom (All-head IsReduced start [] h).bottom) refl
proper_held start (Fixed f) h =
    both_true (nat_lt 0 start.bottom) (nat_lt 0 f.bottom && true) (above_test start.bottom (All-head IsReduced start (f ∷ []) h).bottom)
    (both_true (nat_lt 0 f.bottom) true (above_test f.bottom (All-head IsReduced f [] (All-tail IsReduced start (f ∷ []) h)).bottom) refl)
proper_held start (Open low high) h =
    let rest = All-tail IsReduced start (low ∷ high ∷ []) h in
    both_true (nat_lt 0 start.bottom) (nat_lt 0 low.bottom && (nat_lt 0 high.bottom && true)) (above_test start.bottom (All-head IsReduced start (low ∷ high ∷ []) h).bottom)
    (both_true (nat_lt 0 low.bottom) (nat_lt 0 high.bottom && true) (above_test low.bottom (All-head IsReduced low (high ∷ []) rest).bottom)
    (both_true (nat_lt 0 high.bottom) true (above_test high.bottom (All-head IsReduced high [] (All-tail IsReduced low (high ∷ []) rest)).bottom) refl))

steps_proper : (p : PlainProblem) (steps : List PlainPlaced) → IsPlan p steps → list_all is_proper (step_times steps) ≡ true
steps_proper p steps plan =
    all_pass is_proper (step_times steps) (λ t i.
    let s = mapped_member (λ (s : PlainPlaced). s.timed) steps t i in
    ap is_proper (sym s.2) ∙ proper_held s.0.timed.start s.0.timed.held (each_of (IsStepOf p) steps plan s.0 s.1).lowest)

plan_proper : (p : PlainProblem) (steps : List PlainPlaced) → IsPlan p steps → HasProperEvents p → are_proper (times_of p steps) ≡ true
plan_proper p steps plan h = both_true (list_all is_proper (step_times steps)) (list_all is_proper_event p.timed) (steps_proper p steps plan) h

positive : (ns : List ℕ) → list_all (λ d. nat_lt 0 d) ns ≡ true → Positive ns
positive [] h = tt
positive (n ∷ ns) h = (above_none n (left_true (nat_lt 0 n) (list_all (λ d. nat_lt 0 d) ns) h), positive ns (right_true (nat_lt 0 n) (list_all (λ d. nat_lt 0 d) ns) h))

all_positive : {A : Type 0} (bottoms : A → List ℕ) (xs : List A) → list_all (λ x. list_all (λ d. nat_lt 0 d) (bottoms x)) xs ≡ true → Positive (flat_map bottoms xs)
all_positive bottoms [] h = tt
all_positive bottoms (x ∷ xs) h =
    let first = list_all (λ d. nat_lt 0 d) (bottoms x) in
    let rest = list_all (λ x. list_all (λ d. nat_lt 0 d) (bottoms x)) xs in
    append_positive (bottoms x) (flat_map bottoms xs) (positive (bottoms x) (left_true first rest h)) (all_positive bottoms xs (right_true first rest h))

grid_above : (p : PlainProblem) (steps : List PlainPlaced) → are_proper (times_of p steps) ≡ true → 0 < grid_of_plan p steps
grid_above p steps h =
    common_pos (all_denominators (times_of p steps))
    (append_positive (flat_map denominators (step_times steps)) (flat_map event_denominators p.timed)
    (all_positive denominators (step_times steps) (left_true (list_all is_proper (step_times steps)) (list_all is_proper_event p.timed) h))
    (all_positive event_denominators p.timed (right_true (list_all is_proper (step_times steps)) (list_all is_proper_event p.timed) h)))

pub no_run_of_the_plan : NoRunOfThePlan
no_run_of_the_plan p task pair u events steps plan k pk ds v x =
    let proper = plan_proper p steps plan events in
    no_run_on_a_grid p task pair u steps plan (grid_of_plan p steps) (grid_above p steps proper) (times_lie_on_the_base_grid (times_of p steps) proper) k pk ds v x

-- ---- there is a vector

-- the bounds of an uncertain owner are in order
abbrev IsOpenInOrder : PlainOwner → Type 0
IsOpenInOrder o = o.uncertain ≡ true → (o.start ≤ o.low) × (o.low ≤ o.high)

-- each uncertain owner ends as early as it may
abbrev first_of_all : List PlainOwner → List ℕ
first_of_all [] = []
first_of_all (o ∷ os) = if o.uncertain then (o.low - o.start) ∷ first_of_all os else first_of_all os

open_first : (start low high : ℕ) (rest : List ℕ) → start ≤ low → low ≤ high → (low ≤ start + slice_index ((low - start) ∷ rest) 0) × (start + slice_index ((low - start) ∷ rest) 0 ≤ high)
open_first start low high rest h k =
    let back : start + (low - start) ≡ low = omega (arith, h) in
    (omega (arith, back), omega (arith, back, k))

vector_at : (o : PlainOwner) (os : List PlainOwner) (rest : List ℕ) (chosen : Bool) → o.uncertain ≡ chosen → IsOpenInOrder o → IsVector os rest → IsVector (o ∷ os) (if chosen then (o.low - o.start) ∷ rest else rest)
vector_at o os rest true e h v =
    let both = h e in
    let inside = open_first o.start o.low o.high rest both.0 both.1 in
    (λ _. (omega arith, inside.0, inside.1), subst (IsVector os) (sym (ap (λ b. if b then drop 1 ((o.low - o.start) ∷ rest) else (o.low - o.start) ∷ rest) e)) v)
vector_at o os rest false e h v = (λ c. absurd (true≢false (sym c ∙ e)), subst (IsVector os) (sym (ap (λ b. if b then drop 1 rest else rest) e)) v)

first_vector : (os : List PlainOwner) → ((o : PlainOwner) → Contains os o → IsOpenInOrder o) → IsVector os (first_of_all os)
first_vector [] h = refl
first_vector (o ∷ os) h = vector_at o os (first_of_all os) o.uncertain refl (h o (here o os)) (first_vector os (λ x i. h x (there o os x i)))

open_takes_time : (d : PlainDuration) (held : PlainHeld) → fits d held ≡ true → is_open held ≡ true → lasts d ≡ true
open_takes_time d Instant h o = absurd (true≢false (sym o))
open_takes_time d (Fixed f) h o = absurd (true≢false (sym o))
open_takes_time durations.Instant (Open low high) h o = absurd (true≢false (sym h))
open_takes_time (durations.Controlled least most) (Open low high) h o = refl
open_takes_time (durations.Uncertain least most) (Open low high) h o = refl

no_fault : (fault : GroundFault) → Some fault ≡ None → ⊥
no_fault fault e = cc

-- what comes after the test of the events' times
abbrev refusal_of_counts : PlainProblem → Option GroundFault
refusal_of_counts p =
    if nat_lt MAX_BINDINGS (binding_count p) then Some TooManyBindings
    else if nat_lt MAX_ACTIONS (length (kept p)) then Some TooManyActions
    else refusal_of_instances p

-- a problem that is not refused has no event at a time that the environment chooses
all_fixed : (p : PlainProblem) → refusal p ≡ None → list_any is_chosen p.timed ≡ false
all_fixed p e = at (list_any is_chosen p.timed) (refusal_of_counts p) e
  where
    at : (chosen : Bool) (rest : Option GroundFault) → (if chosen then Some UncontrollableEvent else rest) ≡ None → chosen ≡ false
    at false rest e = refl
    at true rest e = absurd (no_fault UncontrollableEvent e)

less_is_up : (m n : ℕ) → m < n → m ≤ n
less_is_up m n h = omega (arith, h)

-- where there is a certificate, there is a choice for each uncertain owner of a plan's box
vector_of : (p : PlainProblem) (task : PlainTask) (pair : Pair) → IsUnreachable p task pair → (steps : List PlainPlaced) → IsPlan p steps → (grid : ℕ) → 0 < grid → lie_on grid (times_of p steps) ≡ true → (k : ℕ) → 0 < k → IsVector (finer_box k (box_on grid p steps)).owners (first_of_all (finer_box k (box_on grid p steps)).owners)
vector_of p task pair u steps plan grid pg lie k pk =
    let fixed = all_fixed p (task_at (task_of p) task (refusal p) u.grounded).0 in
    first_vector (map (finer_owner k) (box_on grid p steps).owners)
    (each_mapped (finer_owner k) IsOpenInOrder (box_on grid p steps).owners
    (each_owner p steps grid (λ o. IsOpenInOrder (finer_owner k o))
    (λ number s i chosen.
    let l = lasts_finer p steps plan u.simple grid pg lie k pk s i (open_takes_time s.chosen.duration s.timed.held (each_of (IsStepOf p) steps plan s i).lasts chosen) in
    (less_is_up (k * (moments_of grid s.timed).start) (k * (moments_of grid s.timed).low) l.0, l.1))
    (λ number e i chosen. absurd (true≢false (sym (any_passes is_chosen p.timed e i chosen) ∙ fixed)))))

pub no_plan_is_strong : NoPlanIsStrong
no_plan_is_strong p task pair u events steps plan strong =
    let proper = plan_proper p steps plan events in
    let grid : ℕ = grid_of_plan p steps in
    let one : 0 < 1 = omega arith in
    let v = vector_of p task pair u steps plan grid (grid_above p steps proper) (times_lie_on_the_base_grid (times_of p steps) proper) 1 one in
    let ds = first_of_all (finer_box 1 (box_on grid p steps)).owners in
    no_run_of_the_plan p task pair u events steps plan 1 one ds v (strong 1 one ds v)

pub no_plan_runs : NoPlanRuns
no_plan_runs = record { on_grids = no_run_on_a_grid; of_plans = no_run_of_the_plan; not_strong = no_plan_is_strong }
