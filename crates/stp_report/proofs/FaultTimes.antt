-- The moments of faults are moments of their run.
use Rattle.std.proofs.Common.{ℕ, ◌*◌, ◌≤◌, max, Bool, true, false, if◌then◌else◌, List, [], ◌∷◌, ◌++◌, All, Option, Some, None, arith}
use Rattle.std.specs.Prelude.{IfSome}
use Rattle.std.specs.List.{cons_option, filter_map, flat_map}
use Rattle.std.proofs.Math.Logic.{∥∥₁_elim}
use Rattle.std.proofs.Props.{props}
use Rattle.std.proofs.lemmas.List.Elements.{All-nil, All-cons, All-head, All-tail, All-append, All-contains, All-map, All-weaker}
use Rattle.stp_base.specs.declared.limits.TheConstants.{MAX_TIME}
use Rattle.stp_happen.specs.declared.fault.Fault.{Fault}
use Rattle.stp_happen.specs.declared.fault.Fault.TheVariants.{Overlap, Interference, Condition, OverAll, Goal}
use Rattle.stp_happen.specs.declared.run.Run.{Run}
use Rattle.stp_happen.specs.Plain.{PlainEntry, PlainSpan, PlainRun, before, after, at_end}
use Rattle.stp_happen.specs.Views.{entry_of, span_of}
use Rattle.stp_happen.specs.Runs.{plain_run}
use Rattle.stp_happen.specs.Faults.{overlap_of, interference_of, condition_in, over_all_in, goal_in, overlaps, interferences, conditions, over_alls, goals, faults_of, IsFirstFault}
use Rattle.stp_report.specs.Bounds.{IsTime, IsFaultTime}

some_if : {A : Type 0} (P : A → Type 0) (b : Bool) (x : A) → P x → IfSome (if b then Some x else None) P
some_if P true x h = h
some_if P false x h = tt

none_if : {A : Type 0} (P : A → Type 0) (b : Bool) (x : A) → P x → IfSome (if b then None else Some x) P
none_if P true x h = tt
none_if P false x h = h

with_found : {Y : Type 0} (P : Y → Type 0) (found : Option Y) (ys : List Y) → IfSome found P → All P ys → All P (cons_option found ys)
with_found P None ys h all = all
with_found P (Some y) ys h all = All-cons P y ys h all

all_kept : {X Y : Type 0} (P : Y → Type 0) (h : X → Option Y) (xs : List X) → All (λ x. IfSome (h x) P) xs → All P (filter_map h xs)
all_kept P h [] all = All-nil P
all_kept P h (x ∷ xs) all = with_found P (h x) (filter_map h xs) (All-head (λ z. IfSome (h z) P) x xs all) (all_kept P h xs (All-tail (λ z. IfSome (h z) P) x xs all))

all_flat : {X Y : Type 0} (P : Y → Type 0) (h : X → List Y) (xs : List X) → All (λ x. All P (h x)) xs → All P (flat_map h xs)
all_flat P h [] all = All-nil P
all_flat P h (x ∷ xs) all = All-append P (h x) (flat_map h xs) (All-head (λ z. All P (h z)) x xs all) (all_flat P h xs (All-tail (λ z. All P (h z)) x xs all))

module _ (grid : ℕ) where
  abbrev Within : Fault → Type 0
  Within f = IsFaultTime grid f

  abbrev Starts : PlainSpan → Type 0
  Starts s = IsTime grid s.from

  abbrev Comes : PlainEntry → Type 0
  Comes e = IsTime grid e.time

  of_overlap : (s o : PlainSpan) → Starts s → Starts o → IfSome (overlap_of s o) Within
  of_overlap s o h k = some_if Within _ (Overlap (max s.from o.from) (record { 0 = s.step }) (record { 0 = o.step })) (omega arith)

  of_interference : (e o : PlainEntry) → Comes e → IfSome (interference_of e o) Within
  of_interference e o h = some_if Within _ (Interference e.time (record { 0 = e.step }) (record { 0 = o.step })) h

  of_condition : (state : ℕ → Bool) (e : PlainEntry) → Comes e → IfSome (condition_in state e) Within
  of_condition state e h = none_if Within (e.event.cond state) (Condition e.time (record { 0 = e.step })) h

  of_over_all : (state : ℕ → Bool) (time : ℕ) (s : PlainSpan) → IsTime grid time → IfSome (over_all_in state time s) Within
  of_over_all state time s h = some_if Within _ (OverAll time (record { 0 = s.step })) h

  of_goal : (state : ℕ → Bool) (goal : (ℕ → Bool) → Bool) → IfSome (goal_in state goal) Within
  of_goal state goal = none_if Within (goal state) Goal tt

  module _ (run : PlainRun) (entries : All Comes run.entries) (spans : All Starts run.spans) where
    all_overlaps : All Within (overlaps run.spans)
    all_overlaps =
        all_flat Within (λ s. filter_map (overlap_of s) run.spans) run.spans
        (All-weaker Starts (λ s. All Within (filter_map (overlap_of s) run.spans)) (λ s h. all_kept Within (overlap_of s) run.spans (All-weaker Starts (λ o. IfSome (overlap_of s o) Within) (λ o k. of_overlap s o h k) run.spans spans)) run.spans spans)

    all_interferences : All Within (interferences run.entries)
    all_interferences =
        all_flat Within (λ e. filter_map (interference_of e) run.entries) run.entries
        (All-weaker Comes (λ e. All Within (filter_map (interference_of e) run.entries)) (λ e h. all_kept Within (interference_of e) run.entries (All-weaker Comes (λ o. IfSome (interference_of e o) Within) (λ o k. of_interference e o h) run.entries entries)) run.entries entries)

    all_conditions : All Within (conditions run)
    all_conditions = all_kept Within (λ e. condition_in (before run e.time) e) run.entries (All-weaker Comes (λ e. IfSome (condition_in (before run e.time) e) Within) (λ e h. of_condition (before run e.time) e h) run.entries entries)

    all_over_alls : All Within (over_alls run)
    all_over_alls =
        all_flat Within (λ e. filter_map (over_all_in (after run e.time) e.time) run.spans) run.entries
        (All-weaker Comes (λ e. All Within (filter_map (over_all_in (after run e.time) e.time) run.spans)) (λ e h. all_kept Within (over_all_in (after run e.time) e.time) run.spans (All-weaker Starts (λ s. IfSome (over_all_in (after run e.time) e.time s) Within) (λ s k. of_over_all (after run e.time) e.time s h) run.spans spans)) run.entries entries)

    all_goals : All Within (goals run)
    all_goals = all_kept Within (goal_in (at_end run)) (run.goal ∷ []) (All-cons (λ goal. IfSome (goal_in (at_end run) goal) Within) run.goal [] (of_goal (at_end run) run.goal) (All-nil (λ goal. IfSome (goal_in (at_end run) goal) Within)))

    pub all_within : All Within (faults_of run)
    all_within =
        All-append Within (overlaps run.spans ++ interferences run.entries ++ conditions run ++ over_alls run) (goals run)
        (All-append Within (overlaps run.spans ++ interferences run.entries ++ conditions run) (over_alls run)
        (All-append Within (overlaps run.spans ++ interferences run.entries) (conditions run) (All-append Within (overlaps run.spans) (interferences run.entries) all_overlaps all_interferences) all_conditions)
        all_over_alls)
        all_goals

entry_times : (run : Run) → All (λ (e : PlainEntry). IsTime run.grid e.time) (plain_run run).entries
entry_times run = All-map (λ (e : PlainEntry). IsTime run.grid e.time) entry_of run.entries (∥∥₁_elim run.sound (Prim.hlevel props) (λ s k d h. (s.entries_in_range k d h).time))

starts_within : (grid from to : ℕ) → from ≤ to → to ≤ MAX_TIME * grid → IsTime grid from
starts_within grid from to up high = omega arith

span_times : (run : Run) → All (λ (s : PlainSpan). IsTime run.grid s.from) (plain_run run).spans
span_times run = All-map (λ (s : PlainSpan). IsTime run.grid s.from) span_of run.spans (∥∥₁_elim run.sound (Prim.hlevel props) (λ s k d h. starts_within run.grid _ _ (s.spans_in_range k d h).up (s.spans_in_range k d h).to))

pub fault_times : (run : Run) (f : Fault) → IsFirstFault (plain_run run) f → IsFaultTime run.grid f
fault_times run f first = All-contains (IsFaultTime run.grid) (faults_of (plain_run run)) f (all_within run.grid (plain_run run) (entry_times run) (span_times run)) first.there
