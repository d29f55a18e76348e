-- The task of a plan's kept steps over the plan's table, and a certificate of it.
use Rattle.std.proofs.Common.{◌≡◌, ℕ, zero, suc, Bool, true, false, ◌&&◌, if◌then◌else◌, List, [], ◌∷◌, map, filter, Contains, Option, Some, None, IfSome, refl, sym, ap, ap₂, ◌∙◌, subst}
use Rattle.std.specs.Prelude.{slice_get}
use Rattle.stp_schema.specs.Timed.{PlainTimedFact}
use Rattle.stp_schema.specs.Views.{PlainProblem}
use Rattle.stp_tables.specs.Atoms.{Atom, number_of}
use Rattle.stp_cond.specs.Formulas.{Always}
use Rattle.stp_cond.specs.Truth.{state_of_row}
use Rattle.stp_happen.proofs.Members.{all_mapped, each_of, member_map, member_of_kept, of_mapped}
use Rattle.stp_task.specs.Actions.{PlainAction}
use Rattle.stp_task.specs.Certificates.{IsAllowed, IsCertificate, Pair, possible, possible_end}
use Rattle.stp_task.specs.Durations.{lasts}
use Rattle.stp_task.specs.Tasks.{PlainTask}
use Rattle.stp_ground.specs.Problems.{atoms_of_kind, goal_of, is_fact}
use Rattle.stp_ground.specs.Chosen.{PlainChosen}
use Rattle.stp_ground.specs.Ground.{action_by, happening, left_of}
use Rattle.stp_kept.specs.Instances.{chosen_of, kept}
use Rattle.stp_kept.specs.KeptTasks.{task_atoms, task_grid, task_of, timed_event_by}
use Rattle.stp_exec.specs.Placed.{PlainPlaced}
use Rattle.stp_exec.specs.Plans.{IsPlan, atoms_of_plan}
use Rattle.stp_unreachable.proofs.KeptChoices.{IsKeptChoice, kept_choice, keeps}
use Rattle.stp_unreachable.proofs.Moved.{by_other, is_in_both, left_moved, moved, number_stands, value_at}
use Rattle.stp_unreachable.proofs.StepTimes.{step_choice}
use Rattle.stp_unreachable.proofs.MovedEvents.{added_moved, deleted_moved}
use Rattle.stp_unreachable.proofs.ChosenAtoms.{AllPass, event_in_both, goal_in_both, step_in_both}

abbrev pub is_kept_step : PlainProblem → PlainPlaced → Bool
is_kept_step p s = keeps p s.chosen

-- the kept steps of a plan
abbrev pub kept_steps : PlainProblem → List PlainPlaced → List PlainPlaced
kept_steps p steps = filter (is_kept_step p) steps

-- the task of their actions over the plan's table
abbrev pub plan_task : PlainProblem → List PlainPlaced → PlainTask
plan_task p steps = record {
  atoms = atoms_of_plan p steps;
  initial = map (is_fact p) (atoms_of_plan p steps);
  actions = map (λ (s : PlainPlaced). action_by p (atoms_of_plan p steps) s.chosen) (kept_steps p steps);
  timed = map (timed_event_by (atoms_of_plan p steps)) p.timed;
  goal = left_of p (atoms_of_plan p steps) (goal_of p);
  grid = task_grid p;
}

abbrev pub plan_pair : PlainProblem → List PlainPlaced → Pair → Pair
plan_pair p steps pair = moved p (task_atoms p) (atoms_of_plan p steps) pair

-- ---- first states

abbrev first_of : (Atom → Bool) → Option Atom → Bool
first_of facts None = false
first_of facts (Some atom) = facts atom

state_at : (facts : Atom → Bool) (table : List Atom) (a : ℕ) → state_of_row (map facts table) a ≡ first_of facts (slice_get table a)
state_at facts [] a = refl
state_at facts (atom ∷ table) zero = refl
state_at facts (atom ∷ table) (suc a) = state_at facts table a

module _ (p : PlainProblem) (pair : Pair) (cert : IsCertificate (task_of p) pair) where
  -- the first value of an atom with a number
  first_by : (atom : Atom) (n : ℕ) → number_of (task_atoms p) atom ≡ Some n → state_of_row (map (is_fact p) (task_atoms p)) n ≡ is_fact p atom
  first_by atom n e = state_at (is_fact p) (task_atoms p) n ∙ ap (first_of (is_fact p)) (number_stands (task_atoms p) atom n e)

  may_first : (o : Option Atom) → first_of (is_fact p) o ≡ true → value_at p (task_atoms p) pair.may o ≡ true
  may_first None h = h
  may_first (Some atom) h = at (number_of (task_atoms p) atom) refl
    where
      at : (o : Option ℕ) → number_of (task_atoms p) atom ≡ o → by_other pair.may (is_fact p atom) o ≡ true
      at None e = h
      at (Some n) e = cert.closed.first n (first_by atom n e ∙ h)

  always_first : (o : Option Atom) → value_at p (task_atoms p) pair.always o ≡ true → first_of (is_fact p) o ≡ true
  always_first None h = h
  always_first (Some atom) h = at (number_of (task_atoms p) atom) refl h
    where
      at : (o : Option ℕ) → number_of (task_atoms p) atom ≡ o → by_other pair.always (is_fact p atom) o ≡ true → is_fact p atom ≡ true
      at None e h = h
      at (Some n) e h = sym (first_by atom n e) ∙ cert.closed.always n h

-- ---- actions

-- the rule of an end: whether it takes time, and the table, are given
abbrev EndRule : PlainProblem → Pair → List Atom → PlainChosen → Bool → Type 0
EndRule p q table c takes =
    IfSome (if takes then Some (happening p table c.end_cond c.end_adds c.end_dels) else None)
    (λ e. (possible q (left_of p table c.start_cond) && (possible q (if takes then left_of p table c.over_all else Always) && possible q e.cond)) ≡ true → IsAllowed q e)

module _ (p : PlainProblem) (steps : List PlainPlaced) (plan : IsPlan p steps) (pair : Pair) (cert : IsCertificate (task_of p) pair) where
  abbrev old : List Atom
  old = task_atoms p

  abbrev new : List Atom
  new = atoms_of_plan p steps

  kept_step : (s : PlainPlaced) → Contains (kept_steps p steps) s → IsKeptChoice p s.chosen
  kept_step s i = let m = member_of_kept (is_kept_step p) steps s i in kept_choice p s.chosen (step_choice p steps plan s m.0) m.1

  kept_atoms : (s : PlainPlaced) → Contains (kept_steps p steps) s → AllPass (is_in_both old new) p s.chosen
  kept_atoms s i = step_in_both p steps s (member_of_kept (is_kept_step p) steps s i).0 (kept_step s i)

  action_there : (s : PlainPlaced) → Contains (kept_steps p steps) s → Contains (task_of p).actions (action_by p old s.chosen)
  action_there s i =
      let k = kept_step s i in
      subst (λ c. Contains (task_of p).actions (action_by p old c)) k.is (member_map (λ j. action_by p old (chosen_of p j)) (kept p) k.instance k.there)

  start_moved : (s : PlainPlaced) → Contains (kept_steps p steps) s → possible (plan_pair p steps pair) (left_of p new s.chosen.start_cond) ≡ true → IsAllowed (plan_pair p steps pair) (happening p new s.chosen.start_cond s.chosen.start_adds s.chosen.start_dels)
  start_moved s i h =
      let c = s.chosen in
      let atoms = kept_atoms s i in
      let rule = each_of (λ action. possible pair action.start.cond ≡ true → IsAllowed pair action.start) (task_of p).actions cert.closed.starts (action_by p old c) (action_there s i) in
      let allowed = rule (sym (left_moved p old new pair true c.start_cond atoms.start_cond) ∙ h) in
      record { added = added_moved p old new pair c.start_adds atoms.start_adds allowed.added; deleted = deleted_moved p old new pair c.start_adds c.start_dels atoms.start_dels allowed.deleted }

  end_at : (c : PlainChosen) (takes : Bool) → AllPass (is_in_both old new) p c → EndRule p pair old c takes → EndRule p (plan_pair p steps pair) new c takes
  end_at c false atoms rule = tt
  end_at c true atoms rule = λ h.
      let start = left_moved p old new pair true c.start_cond atoms.start_cond in
      let over = left_moved p old new pair true c.over_all atoms.over_all in
      let end = left_moved p old new pair true c.end_cond atoms.end_cond in
      let allowed = rule (sym (ap₂ (λ a b. a && b) start (ap₂ (λ a b. a && b) over end)) ∙ h) in
      record { added = added_moved p old new pair c.end_adds atoms.end_adds allowed.added; deleted = deleted_moved p old new pair c.end_adds c.end_dels atoms.end_dels allowed.deleted }

  end_moved : (s : PlainPlaced) → Contains (kept_steps p steps) s → EndRule p (plan_pair p steps pair) new s.chosen (lasts s.chosen.duration)
  end_moved s i =
      end_at s.chosen (lasts s.chosen.duration) (kept_atoms s i)
      (each_of (λ action. IfSome action.finish (λ e. possible_end pair action e ≡ true → IsAllowed pair e)) (task_of p).actions cert.closed.ends (action_by p old s.chosen) (action_there s i))

  -- ---- events

  timed_moved : (e : PlainTimedFact) → Contains p.timed e → IsAllowed (plan_pair p steps pair) (timed_event_by new e).event
  timed_moved e i =
      let adding = atoms_of_kind true e.literals in
      let deleting = atoms_of_kind false e.literals in
      let allowed = of_mapped (timed_event_by old) (λ t. IsAllowed pair t.event) p.timed cert.closed.timed e i in
      record {
        added = added_moved p old new pair adding (event_in_both p steps e i true) allowed.added;
        deleted = deleted_moved p old new pair adding deleting (event_in_both p steps e i false) allowed.deleted;
      }

  -- ---- the certificate

  abbrev made : PlainPlaced → PlainAction
  made s = action_by p new s.chosen

  pub plan_certificate : IsCertificate (plan_task p steps) (plan_pair p steps pair)
  plan_certificate = record {
    closed = record {
      first = λ a h. may_first p pair cert (slice_get new a) (sym (state_at (is_fact p) new a) ∙ h);
      always = λ a h. state_at (is_fact p) new a ∙ always_first p pair cert (slice_get new a) h;
      starts = all_mapped made (λ action. possible (plan_pair p steps pair) action.start.cond ≡ true → IsAllowed (plan_pair p steps pair) action.start) (kept_steps p steps) start_moved;
      ends = all_mapped made (λ action. IfSome action.finish (λ e. possible_end (plan_pair p steps pair) action e ≡ true → IsAllowed (plan_pair p steps pair) e)) (kept_steps p steps) end_moved;
      timed = all_mapped (timed_event_by new) (λ t. IsAllowed (plan_pair p steps pair) t.event) p.timed timed_moved;
    };
    impossible = left_moved p old new pair true (goal_of p) (goal_in_both p steps) ∙ cert.impossible;
  }
