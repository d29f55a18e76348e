-- A task that is made of its parts, and which refusal comes.
use Rattle.std.proofs.Common.{◌≡◌, ℕ, Bool, true, false, not, ◌&&◌, ◌||◌, nat_lt, List, [], ◌∷◌, length, map, Option, Some, None, MatchOption, Result, Err, refl, sym, ap, ◌∙◌, ◌<◌, ◌≤◌, subst, if◌then◌else◌, arith}
use Rattle.std.proofs.lemmas.Bool.Decides.{nat_tests}
use Rattle.std.specs.List.{list_all, list_any}
use Rattle.std.proofs.lemmas.Bool.{and_parts}
use Rattle.stp_cond.specs.Formulas.{Formula}
use Rattle.stp_frac.specs.Fractions.{Fraction, is_less, value_of}
use Rattle.stp_schema.specs.Timed.{PlainTimedFact, is_chosen, comes_before, are_in_order}
use Rattle.stp_schema.specs.Views.{PlainProblem}
use Rattle.stp_tables.specs.Atoms.{Atom}
use Rattle.stp_task.specs.Actions.{PlainAction}
use Rattle.stp_task.specs.declared.task.Task.{Task}
use Rattle.stp_task.specs.declared.task.TimedEvent.{TimedEvent}
use Rattle.stp_task.specs.SoundTask.{are_by_time}
use Rattle.stp_task.specs.Tasks.{PlainTask, PlainTimedEvent, timed_event_of}
use Rattle.stp_ground.specs.Problems.{goal_of, is_fact}
use Rattle.stp_ground.specs.Ground.{action_by, left_of}
use Rattle.stp_ground.specs.Chosen.{PlainChosen}
use Rattle.stp_kept.specs.Instances.{chosen_of, kept}
use Rattle.stp_kept.specs.declared.fault.GroundFault.{GroundFault}
use Rattle.stp_kept.specs.declared.fault.GroundFault.TheVariants.{GridTooFine, UncontrollableEvent, TooManyBindings, TooManyActions}
use Rattle.stp_kept.specs.Counts.{binding_count}
use Rattle.stp_base.specs.declared.limits.TheConstants.{MAX_ACTIONS, MAX_BINDINGS}
use Rattle.stp_kept.specs.KeptTasks.{refusal_by, refusal_of_instances, task_grid, task_of, task_or_fault, task_over, timed_event_by, too_long_at, unless_refused}
use Rattle.stp_kept.specs.Answers.{Answers}

map_again : {X Y Z : Type 0} (f : Y → Z) (g : X → Y) (xs : List X) → map f (map g xs) ≡ map (λ x. f (g x)) xs
map_again f g [] = refl
map_again f g (x ∷ xs) = ap (λ l. f (g x) ∷ l) (map_again f g xs)

abbrev pub parts : List Atom → List Bool → List PlainAction → List PlainTimedEvent → Formula → ℕ → PlainTask
parts atoms initial actions timed goal grid = record { atoms = atoms; initial = initial; actions = actions; timed = timed; goal = goal; grid = grid }

pub made_of : (p : PlainProblem) (table : List Atom) (initial : List Bool) (actions : List PlainAction) (chosen : List PlainChosen) (timed : List PlainTimedEvent) (goal : Formula) (grid : ℕ) → initial ≡ map (is_fact p) table → actions ≡ map (action_by p table) chosen → chosen ≡ map (chosen_of p) (kept p) → timed ≡ map (timed_event_by table) p.timed → goal ≡ left_of p table (goal_of p) → grid ≡ task_grid p → parts table initial actions timed goal grid ≡ task_over p table
made_of p table initial actions chosen timed goal grid i a c t g k =
    ap (λ x. parts table x actions timed goal grid) i
    ∙ ap (λ x. parts table (map (is_fact p) table) x timed goal grid) (a ∙ ap (map (action_by p table)) c ∙ map_again (action_by p table) (chosen_of p) (kept p))
    ∙ ap (λ x. parts table (map (is_fact p) table) (map (λ i. action_by p table (chosen_of p i)) (kept p)) x goal grid) t
    ∙ ap (λ x. parts table (map (is_fact p) table) (map (λ i. action_by p table (chosen_of p i)) (kept p)) (map (timed_event_by table) p.timed) x grid) g
    ∙ ap (λ x. parts table (map (is_fact p) table) (map (λ i. action_by p table (chosen_of p i)) (kept p)) (map (timed_event_by table) p.timed) (left_of p table (goal_of p)) x) k

-- ---- events by time

abbrev times_of : List TimedEvent → List Fraction
times_of events = map (λ e. value_of e.at) events

abbrev ascend : List Fraction → Bool
ascend [] = true
ascend (f ∷ fs) = list_all (is_less f) fs && ascend fs

all_by : (f : Fraction) (events : List TimedEvent) → list_all (λ e. is_less f (value_of e.at)) events ≡ list_all (is_less f) (times_of events)
all_by f [] = refl
all_by f (e ∷ es) = ap (λ b. is_less f (value_of e.at) && b) (all_by f es)

by_time : (events : List TimedEvent) → are_by_time events ≡ ascend (times_of events)
by_time [] = refl
by_time (e ∷ es) = ap (λ b. b && are_by_time es) (all_by (value_of e.at) es) ∙ ap (λ b. list_all (is_less (value_of e.at)) (times_of es) && b) (by_time es)

none_first : (b c : Bool) → (b || c) ≡ false → b ≡ false
none_first true c e = cc
none_first false c e = refl

none_rest : (b c : Bool) → (b || c) ≡ false → c ≡ false
none_rest true c e = cc
none_rest false c e = e

one_before : (chosen other less : Bool) → other ≡ false → (other || (not chosen && less)) ≡ true → less ≡ true
one_before true false less e h = cc
one_before false false less e h = h
one_before true true less e h = cc
one_before false true less e h = cc

abbrev highs : List PlainTimedFact → List Fraction
highs facts = map (λ e. e.high) facts

all_before : (e : PlainTimedFact) (facts : List PlainTimedFact) → list_any is_chosen facts ≡ false → list_all (comes_before e) facts ≡ true → list_all (is_less e.high) (highs facts) ≡ true
all_before e [] n h = refl
all_before e (f ∷ fs) n h =
    let both = and_parts (comes_before e f) (list_all (comes_before e) fs) h in
    ap (λ b. b && list_all (is_less e.high) (highs fs)) (one_before (is_chosen e) (is_chosen f) (is_less e.high f.high) (none_first (is_chosen f) (list_any is_chosen fs) n) both.0)
    ∙ all_before e fs (none_rest (is_chosen f) (list_any is_chosen fs) n) both.1

in_order : (facts : List PlainTimedFact) → list_any is_chosen facts ≡ false → are_in_order facts ≡ true → ascend (highs facts) ≡ true
in_order [] n h = refl
in_order (e ∷ es) n h =
    let rest = none_rest (is_chosen e) (list_any is_chosen es) n in
    let both = and_parts (list_all (comes_before e) es) (are_in_order es) h in
    ap (λ b. b && ascend (highs es)) (all_before e es rest both.0) ∙ in_order es rest both.1

pub are_ordered : (table : List Atom) (facts : List PlainTimedFact) (events : List TimedEvent) → map timed_event_of events ≡ map (timed_event_by table) facts → list_any is_chosen facts ≡ false → are_in_order facts ≡ true → are_by_time events ≡ true
are_ordered table facts events e n h =
    by_time events
    ∙ ap ascend (sym (map_again (λ (t : PlainTimedEvent). t.at) timed_event_of events) ∙ ap (map (λ (t : PlainTimedEvent). t.at)) e ∙ map_again (λ (t : PlainTimedEvent). t.at) (timed_event_by table) facts)
    ∙ in_order facts n h

-- ---- refusals

module _ (fault : GroundFault) (rest : Option GroundFault) (t : PlainTask) where
  -- a refusal that does not come, and one that does
  pub passed : (b : Bool) → b ≡ false → unless_refused (if b then Some fault else rest) t ≡ unless_refused rest t
  passed true h = cc
  passed false h = refl

  pub refused : (b : Bool) → b ≡ true → unless_refused (if b then Some fault else rest) t ≡ Err fault
  refused true h = refl
  refused false h = cc

pub too_long : (n : ℕ) (f : Option ℕ) (g : Bool) (t : PlainTask) → Some n ≡ f → unless_refused (refusal_by f g) t ≡ Err (too_long_at n)
too_long n f g t e = ap (λ o. unless_refused (refusal_by o g) t) (sym e)

pub lasts : (f : Option ℕ) (g : Bool) (t : PlainTask) → None ≡ f → unless_refused (refusal_by f g) t ≡ unless_refused (if g then Some GridTooFine else None) t
lasts f g t e = ap (λ o. unless_refused (refusal_by o g) t) (sym e)

-- what is right does not change
pub answers_as : (result : Result Task GroundFault) (one other : Result PlainTask GroundFault) → other ≡ one → Answers result one → Answers result other
answers_as result one other e h = subst (Answers result) (sym e) h

-- a count is past its limit, or within it
pub is_past : (limit n : ℕ) → limit < n → nat_lt limit n ≡ true
is_past limit n h = grind (arith, nat_tests)

pub is_within : (limit n : ℕ) → n ≤ limit → nat_lt limit n ≡ false
is_within limit n h = grind (arith, nat_tests)

-- what an option holds
pub some_part : {X : Type 0} (A : Type 0) (B : X → Type 0) (r : Option X) (x : X) → r ≡ Some x → MatchOption r A B → B x
some_part A B None x e h = cc
some_part A B (Some y) x e h = let same : y ≡ x = cc in subst B same h

-- where no refusal comes that is before those of its instances, these decide
pub first_refusals_pass : (p : PlainProblem) → list_any is_chosen p.timed ≡ false → nat_lt MAX_BINDINGS (binding_count p) ≡ false → nat_lt MAX_ACTIONS (length (kept p)) ≡ false
    → task_or_fault p ≡ unless_refused (refusal_of_instances p) (task_of p)
first_refusals_pass p chosen bindings actions =
    passed UncontrollableEvent _ (task_of p) (list_any is_chosen p.timed) chosen
    ∙ passed TooManyBindings _ (task_of p) (nat_lt MAX_BINDINGS (binding_count p)) bindings
    ∙ passed TooManyActions _ (task_of p) (nat_lt MAX_ACTIONS (length (kept p))) actions
