-- The faults of a run, and the first of them.
use Rattle.std.specs.Prelude.{◌≡◌, ℕ, ◌==◌, nat_lt, nat_le, max, Bool, false, not, ◌&&◌, if◌then◌else◌, List, [], ◌∷◌, ◌++◌, All, Contains, Option, Some, None}
use Rattle.std.specs.List.{filter_map, flat_map}
use Rattle.std.specs.Cmp.Lexicographic.{slice_cmp}
use Rattle.std.specs.Ordering.{nat_cmp, is_lt}
use Rattle.stp_cond.specs.Atoms.{interfere}
use Rattle.stp_happen.specs.declared.fault.Fault.{Fault}
use Rattle.stp_happen.specs.declared.fault.Fault.TheVariants.{Overlap, Interference, Condition, OverAll, Goal}
use Rattle.stp_happen.specs.Plain.{PlainEntry, PlainSpan, PlainRun, Executes, before, after, at_end}

-- ---- which faults there are

-- two closed spans of one action that meet, at the greater of their starts
abbrev pub overlap_of : PlainSpan → PlainSpan → Option Fault
overlap_of s o =
    if nat_lt s.step o.step && s.key == o.key && nat_le s.from o.to && nat_le o.from s.to
    then Some (Overlap (max s.from o.from) (record { 0 = s.step }) (record { 0 = o.step }))
    else None

-- two events of one moment that interfere
abbrev pub interference_of : PlainEntry → PlainEntry → Option Fault
interference_of e o =
    if nat_lt e.step o.step && e.time == o.time && interfere e.event o.event
    then Some (Interference e.time (record { 0 = e.step }) (record { 0 = o.step }))
    else None

-- an event that does not find what it needs in a state
abbrev pub condition_in : (ℕ → Bool) → PlainEntry → Option Fault
condition_in state e = if e.event.cond state then None else Some (Condition e.time (record { 0 = e.step }))

-- a span that holds a moment, and in the state after it not what has to hold
abbrev pub over_all_in : (ℕ → Bool) → ℕ → PlainSpan → Option Fault
over_all_in state time s =
    if nat_le s.from time && nat_lt time s.to && not (s.over state)
    then Some (OverAll time (record { 0 = s.step }))
    else None

-- a goal that does not hold in the last state
abbrev pub goal_in : (ℕ → Bool) → ((ℕ → Bool) → Bool) → Option Fault
goal_in state goal = if goal state then None else Some Goal

abbrev pub overlaps : List PlainSpan → List Fault
overlaps spans = flat_map (λ s. filter_map (overlap_of s) spans) spans

abbrev pub interferences : List PlainEntry → List Fault
interferences entries = flat_map (λ e. filter_map (interference_of e) entries) entries

abbrev pub conditions : PlainRun → List Fault
conditions run = filter_map (λ e. condition_in (before run e.time) e) run.entries

abbrev pub over_alls : PlainRun → List Fault
over_alls run = flat_map (λ e. filter_map (over_all_in (after run e.time) e.time) run.spans) run.entries

abbrev pub goals : PlainRun → List Fault
goals run = filter_map (goal_in (at_end run)) (run.goal ∷ [])

-- all faults of a run
abbrev pub faults_of : PlainRun → List Fault
faults_of run = overlaps run.spans ++ interferences run.entries ++ conditions run ++ over_alls run ++ goals run

-- ---- which is the first

-- by moment, then by kind, then by step numbers; the goal comes last
abbrev pub key_of : Fault → List ℕ
key_of (Overlap time first second) = 0 ∷ time ∷ 0 ∷ first.0 ∷ second.0 ∷ []
key_of (Interference time first second) = 0 ∷ time ∷ 1 ∷ first.0 ∷ second.0 ∷ []
key_of (Condition time step) = 0 ∷ time ∷ 2 ∷ step.0 ∷ 0 ∷ []
key_of (OverAll time step) = 0 ∷ time ∷ 3 ∷ step.0 ∷ 0 ∷ []
key_of Goal = 1 ∷ 0 ∷ 0 ∷ 0 ∷ 0 ∷ []

-- in dictionary order of the keys
abbrev pub is_before : Fault → Fault → Bool
is_before f g = is_lt (slice_cmp nat_cmp (key_of f) (key_of g))

-- a fault of the run that no other fault comes before
pub record IsFirstFault (run : PlainRun) (f : Fault) : Type 0 where
  pub there : Contains (faults_of run) f
  pub first : All (λ g. is_before g f ≡ false) (faults_of run)

-- a run that executes has no first fault
abbrev pub FirstFaultsMeanFailure : Type 0
FirstFaultsMeanFailure = (run : PlainRun) (f : Fault) → IsFirstFault run f → Executes run → ⊥
