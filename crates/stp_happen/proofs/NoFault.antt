-- A run has no fault exactly where it executes.
use Rattle.std.proofs.Common.{◌≡◌, ℕ, Bool, true, List, [], ◌∷◌, ◌++◌, Option, Some, None, All, Contains, refl, ap, ◌∙◌, arith}
use Rattle.std.specs.List.{cons_option, filter_map, flat_map}
use Rattle.std.proofs.lemmas.Bool.Decides.{nat_tests}
use Rattle.std.proofs.lemmas.List.Elements.{All-cons, All-nil, All-head, All-tail, All-weaker}
use Rattle.stp_cond.specs.Atoms.{interfere}
use Rattle.stp_happen.specs.Faults.{overlap_of, interference_of, condition_in, over_all_in, goal_in, overlaps, interferences, conditions, over_alls, goals, faults_of}
use Rattle.stp_happen.specs.Plain.{PlainEntry, PlainSpan, PlainRun, AreCalm, IsFed, IsKept, AreApart, Executes, before, after, at_end}
use Rattle.stp_happen.proofs.Members.{all_pairs, each_of}
use Rattle.stp_happen.proofs.MomentSteps.{filter_map_none}
use Rattle.stp_happen.proofs.Interfering.{interfere_turned}

-- ---- empty lists

cons_nil : {X : Type 0} (r : Option X) (xs : List X) → cons_option r xs ≡ [] → (r ≡ None) × (xs ≡ [])
cons_nil None xs e = (refl, e)
cons_nil (Some x) xs e = absurd cc

filter_map_nil : {X Y : Type 0} (f : X → Option Y) (xs : List X) → filter_map f xs ≡ [] → All (λ x. f x ≡ None) xs
filter_map_nil f [] e = All-nil (λ y. f y ≡ None)
filter_map_nil f (x ∷ xs) e = let parts = cons_nil (f x) (filter_map f xs) e in All-cons (λ y. f y ≡ None) x xs parts.0 (filter_map_nil f xs parts.1)

append_nil : {X : Type 0} (xs ys : List X) → xs ++ ys ≡ [] → (xs ≡ []) × (ys ≡ [])
append_nil [] ys e = (refl, e)
append_nil (x ∷ xs) ys e = absurd cc

flat_map_nil : {X Y : Type 0} (f : X → List Y) (xs : List X) → flat_map f xs ≡ [] → All (λ x. f x ≡ []) xs
flat_map_nil f [] e = All-nil (λ y. f y ≡ [])
flat_map_nil f (x ∷ xs) e = let parts = append_nil (f x) (flat_map f xs) e in All-cons (λ y. f y ≡ []) x xs parts.0 (flat_map_nil f xs parts.1)

flat_map_none : {X Y : Type 0} (f : X → List Y) (xs : List X) → All (λ x. f x ≡ []) xs → flat_map f xs ≡ []
flat_map_none f [] all = refl
flat_map_none f (x ∷ xs) all = ap (λ r. r ++ flat_map f xs) (All-head (λ y. f y ≡ []) x xs all) ∙ flat_map_none f xs (All-tail (λ y. f y ≡ []) x xs all)

-- where no two have an answer, each two have none
none_of_pairs : {X Y : Type 0} (f : X → X → Option Y) (xs : List X) → flat_map (λ x. filter_map (f x) xs) xs ≡ [] → (x y : X) → Contains xs x → Contains xs y → f x y ≡ None
none_of_pairs f xs e x y i j = each_of (λ z. f x z ≡ None) xs (filter_map_nil (f x) xs (each_of (λ z. filter_map (f z) xs ≡ []) xs (flat_map_nil (λ z. filter_map (f z) xs) xs e) x i)) y j

-- ---- one pair, or one entry

-- two spans of different steps have an overlap in one order of the two
no_overlap : (s o : PlainSpan) → overlap_of s o ≡ None → overlap_of o s ≡ None → AreApart s o
no_overlap s o h k = λ other key. grind (arith, nat_tests)

overlap_none : (s o : PlainSpan) → AreApart s o → overlap_of s o ≡ None
overlap_none s o h = grind (arith, nat_tests)

-- so have two entries, since interference goes both ways
no_interference : (e o : PlainEntry) → interference_of e o ≡ None → interference_of o e ≡ None → AreCalm e o
no_interference e o h k = λ other at. let turned : interfere o.event e.event ≡ interfere e.event o.event = interfere_turned o.event e.event in grind (arith, nat_tests)

interference_none : (e o : PlainEntry) → AreCalm e o → interference_of e o ≡ None
interference_none e o h = grind (arith, nat_tests)

no_condition : (run : PlainRun) (e : PlainEntry) → condition_in (before run e.time) e ≡ None → IsFed run e
no_condition run e h = grind (arith, nat_tests)

condition_none : (run : PlainRun) (e : PlainEntry) → IsFed run e → condition_in (before run e.time) e ≡ None
condition_none run e h = grind (arith, nat_tests)

no_over_all : (run : PlainRun) (e : PlainEntry) (s : PlainSpan) → over_all_in (after run e.time) e.time s ≡ None → IsKept run e s
no_over_all run e s h = λ from to. grind (arith, nat_tests)

over_all_none : (run : PlainRun) (e : PlainEntry) (s : PlainSpan) → IsKept run e s → over_all_in (after run e.time) e.time s ≡ None
over_all_none run e s h = grind (arith, nat_tests)

no_goal : (state : ℕ → Bool) (goal : (ℕ → Bool) → Bool) → goal_in state goal ≡ None → goal state ≡ true
no_goal state goal h = grind (arith, nat_tests)

goal_none : (state : ℕ → Bool) (goal : (ℕ → Bool) → Bool) → goal state ≡ true → goal_in state goal ≡ None
goal_none state goal h = grind (arith, nat_tests)

-- ---- the run

pub executes : (run : PlainRun) → faults_of run ≡ [] → Executes run
executes run e =
    let first = append_nil (overlaps run.spans ++ interferences run.entries ++ conditions run ++ over_alls run) (goals run) e in
    let second = append_nil (overlaps run.spans ++ interferences run.entries ++ conditions run) (over_alls run) first.0 in
    let third = append_nil (overlaps run.spans ++ interferences run.entries) (conditions run) second.0 in
    let fourth = append_nil (overlaps run.spans) (interferences run.entries) third.0 in
    record {
      calm = all_pairs AreCalm run.entries run.entries (λ e o i j. no_interference e o (none_of_pairs interference_of run.entries fourth.1 e o i j) (none_of_pairs interference_of run.entries fourth.1 o e j i));
      fed = All-weaker (λ e. condition_in (before run e.time) e ≡ None) (IsFed run) (no_condition run) run.entries (filter_map_nil (λ e. condition_in (before run e.time) e) run.entries third.1);
      kept = All-weaker (λ e. filter_map (over_all_in (after run e.time) e.time) run.spans ≡ []) (λ e. All (IsKept run e) run.spans)
          (λ e h. All-weaker (λ s. over_all_in (after run e.time) e.time s ≡ None) (IsKept run e) (no_over_all run e) run.spans (filter_map_nil (over_all_in (after run e.time) e.time) run.spans h))
          run.entries (flat_map_nil (λ e. filter_map (over_all_in (after run e.time) e.time) run.spans) run.entries second.1);
      apart = all_pairs AreApart run.spans run.spans (λ s o i j. no_overlap s o (none_of_pairs overlap_of run.spans fourth.0 s o i j) (none_of_pairs overlap_of run.spans fourth.0 o s j i));
      reached = no_goal (at_end run) run.goal (cons_nil (goal_in (at_end run) run.goal) [] first.1).0;
    }

pub none_if_executes : (run : PlainRun) → Executes run → faults_of run ≡ []
none_if_executes run h =
    let o : overlaps run.spans ≡ [] = flat_map_none (λ s. filter_map (overlap_of s) run.spans) run.spans
    (All-weaker (λ s. All (AreApart s) run.spans) (λ s. filter_map (overlap_of s) run.spans ≡ []) (λ s a. filter_map_none (overlap_of s) run.spans (All-weaker (AreApart s) (λ x. overlap_of s x ≡ None) (overlap_none s) run.spans a)) run.spans h.apart) in
    let i : interferences run.entries ≡ [] = flat_map_none (λ e. filter_map (interference_of e) run.entries) run.entries
    (All-weaker (λ e. All (AreCalm e) run.entries) (λ e. filter_map (interference_of e) run.entries ≡ []) (λ e a. filter_map_none (interference_of e) run.entries (All-weaker (AreCalm e) (λ x. interference_of e x ≡ None) (interference_none e) run.entries a)) run.entries h.calm) in
    let c : conditions run ≡ [] = filter_map_none (λ e. condition_in (before run e.time) e) run.entries (All-weaker (IsFed run) (λ e. condition_in (before run e.time) e ≡ None) (condition_none run) run.entries h.fed) in
    let a : over_alls run ≡ [] = flat_map_none (λ e. filter_map (over_all_in (after run e.time) e.time) run.spans) run.entries
    (All-weaker (λ e. All (IsKept run e) run.spans) (λ e. filter_map (over_all_in (after run e.time) e.time) run.spans ≡ []) (λ e k. filter_map_none (over_all_in (after run e.time) e.time) run.spans (All-weaker (IsKept run e) (λ s. over_all_in (after run e.time) e.time s ≡ None) (over_all_none run e) run.spans k)) run.entries h.kept) in
    let g : goals run ≡ [] = ap (λ r. cons_option r []) (goal_none (at_end run) run.goal h.reached) in
    ap (λ l. l ++ interferences run.entries ++ conditions run ++ over_alls run ++ goals run) o
    ∙ (ap (λ l. l ++ conditions run ++ over_alls run ++ goals run) i ∙ (ap (λ l. l ++ over_alls run ++ goals run) c ∙ (ap (λ l. l ++ goals run) a ∙ g)))
