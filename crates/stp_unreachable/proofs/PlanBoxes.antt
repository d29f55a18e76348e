-- The box of a plan on a grid is a box of the task of its kept steps.
use Rattle.std.proofs.Common.{◌≡◌, ℕ, ◌+◌, ◌*◌, ◌<◌, ◌≤◌, Bool, true, false, not, ◌&&◌, if◌then◌else◌, List, [], ◌∷◌, ◌++◌, length, map, Contains, Some, None, IfSome, ◌⊎◌, inl, inr, refl, sym, ap, ◌∙◌, subst, arith}
use Rattle.std.specs.List.{list_all}
use Rattle.std.proofs.Math.Nat.{mul-le-mul, mul-lt-mul_of_pos_left}
use Rattle.stp_schema.specs.Timed.{PlainTimedFact}
use Rattle.stp_schema.specs.Views.{PlainProblem}
use Rattle.stp_tables.specs.Atoms.{Atom}
use Rattle.stp_cond.specs.Folded.{is_never}
use Rattle.stp_cond.specs.Formulas.{Always, Formula}
use Rattle.stp_frac.proofs.Divisors.{both_true, left_true}
use Rattle.stp_happen.specs.Boxes.{PlainOwner, finer_box, finer_owner}
use Rattle.stp_happen.specs.Owners.{PlainBoxStep, PlainBoxTimed, step_owner, step_owners, timed_owner, timed_owners}
use Rattle.stp_happen.proofs.Members.{all_mapped, each_of, each_passes, here, kept_member, mapped_member, member_cases, member_map, there}
use Rattle.stp_happen.proofs.OwnerLists.{in_steps, in_timed}
use Rattle.stp_task.specs.Actions.{PlainHappening}
use Rattle.stp_task.specs.Durations.{lasts}
use Rattle.stp_instance.specs.Expanded.{Claim}
use Rattle.stp_instance.specs.Numbered.{fluent_atoms, is_in}
use Rattle.stp_ground.specs.Problems.{is_fact, is_written}
use Rattle.stp_ground.specs.Chosen.{PlainChosen}
use Rattle.stp_ground.specs.Ground.{action_by, happening, left_of}
use Rattle.stp_kept.specs.KeptTasks.{timed_event_by}
use Rattle.stp_kept.specs.Settled.{folds_to_false}
use Rattle.stp_kept.proofs.FoldedValues.{false_shown, folds_by_value}
use Rattle.stp_exec.specs.GridLaws.{lie_on}
use Rattle.stp_exec.specs.Placed.{PlainPlaced, step_times, times_of}
use Rattle.stp_exec.specs.Plans.{IsPlan, IsStepOf, atoms_of_plan, box_on, step_in, timed_in}
use Rattle.stp_exec.specs.Timed.{event_lies_on, lies_on, moments_of}
use Rattle.stp_relax.specs.Unreachable.{IsActionOf, IsBoxOf, IsKeptAction, IsOwnerIn}
use Rattle.stp_relax.specs.Unreachable as boxes
use Rattle.stp_unreachable.specs.PlansOf.{HasPlainSimpleActions}
use Rattle.stp_unreachable.proofs.KeptChoices.{instant_free, keeps}
use Rattle.stp_unreachable.proofs.StepTimes.{step_choice, step_lasts}
use Rattle.stp_unreachable.proofs.ChosenAtoms.{AllPass, step_in_plan}
use Rattle.stp_unreachable.proofs.PlanTasks.{is_kept_step, kept_steps, plan_task}

-- ---- which steps are kept

-- a condition is the formula false over a table with its atoms exactly where it is so over its own atoms
never_folds : (p : PlainProblem) (table : List Atom) (claim : Claim) → list_all (is_in table) (fluent_atoms (is_written p) claim) ≡ true → is_never (left_of p table claim) ≡ folds_to_false p claim
never_folds p table claim h = false_shown (is_written p) (is_fact p) table claim h ∙ sym (folds_by_value p claim)

not_all : (a b c : Bool) → a ≡ false → b ≡ false → c ≡ false → (not a && (not b && not c)) ≡ true
not_all a b c e f g = both_true (not a) (not b && not c) (ap not e) (both_true (not b) (not c) (ap not f) (ap not g))

module _ (p : PlainProblem) (table : List Atom) (c : PlainChosen) (atoms : AllPass (is_in table) p c) where
  -- what holds inside and at the end, where it is known whether the action takes time
  inside_at : (takes : Bool) → (takes ≡ false → (folds_to_false p c.over_all ≡ false) × (folds_to_false p c.end_cond ≡ false)) → is_never (if takes then left_of p table c.over_all else Always) ≡ false →
      IfSome (if takes then Some (happening p table c.end_cond c.end_adds c.end_dels) else None) (λ e. is_never e.cond ≡ false) → (folds_to_false p c.over_all ≡ false) × (folds_to_false p c.end_cond ≡ false)
  inside_at false free over finish = free refl
  inside_at true free over finish = (sym (never_folds p table c.over_all atoms.over_all) ∙ over, sym (never_folds p table c.end_cond atoms.end_cond) ∙ finish)

  -- an action none of whose conditions is the formula false is kept
  keeps_from : (lasts c.duration ≡ false → (folds_to_false p c.over_all ≡ false) × (folds_to_false p c.end_cond ≡ false)) → IsKeptAction (action_by p table c) → keeps p c ≡ true
  keeps_from free k =
      let inside = inside_at (lasts c.duration) free k.over k.finish in
      not_all (folds_to_false p c.start_cond) (folds_to_false p c.over_all) (folds_to_false p c.end_cond) (sym (never_folds p table c.start_cond atoms.start_cond) ∙ k.start) inside.0 inside.1

-- ---- members of two lists that are joined

of_joined : {X : Type 0} (xs ys : List X) (x : X) → Contains (xs ++ ys) x → Contains xs x ⊎ Contains ys x
of_joined [] ys x i = inr i
of_joined (y ∷ xs) ys x i =
    elim (member_cases y (xs ++ ys) x i) [
      | inl e ↦ inl (subst (λ z. Contains (y ∷ xs) z) e (here y xs))
      | inr j ↦ elim (of_joined xs ys x j) [ inl a ↦ inl (there y xs x a) | inr b ↦ inr b ]
    ]

-- what holds of the owner of each step and of each event holds of each owner of a plan's box
module _ (p : PlainProblem) (steps : List PlainPlaced) (grid : ℕ) (P : PlainOwner → Type 0) where
  abbrev box_steps : List PlainBoxStep
  box_steps = map (step_in p (atoms_of_plan p steps) grid steps) steps

  abbrev box_timed : List PlainBoxTimed
  box_timed = map (timed_in (atoms_of_plan p steps) grid) p.timed

  of_step : ((number : ℕ) (s : PlainPlaced) → Contains steps s → P (step_owner number (step_in p (atoms_of_plan p steps) grid steps s))) → (o : PlainOwner) → Contains (step_owners 1 box_steps) o → P o
  of_step h o i =
      let r = in_steps 1 box_steps o i in
      let s = mapped_member (step_in p (atoms_of_plan p steps) grid steps) steps r.s r.member in
      subst P (sym (r.is ∙ ap (step_owner r.m) (sym s.2))) (h r.m s.0 s.1)

  of_timed : ((number : ℕ) (e : PlainTimedFact) → Contains p.timed e → P (timed_owner number (timed_in (atoms_of_plan p steps) grid e))) → (o : PlainOwner) → Contains (timed_owners (length box_steps + 1) box_timed) o → P o
  of_timed h o i =
      let r = in_timed (length box_steps + 1) box_timed o i in
      let e = mapped_member (timed_in (atoms_of_plan p steps) grid) p.timed r.e r.member in
      subst P (sym (r.is ∙ ap (timed_owner r.m) (sym e.2))) (h r.m e.0 e.1)

  pub each_owner : ((number : ℕ) (s : PlainPlaced) → Contains steps s → P (step_owner number (step_in p (atoms_of_plan p steps) grid steps s))) →
      ((number : ℕ) (e : PlainTimedFact) → Contains p.timed e → P (timed_owner number (timed_in (atoms_of_plan p steps) grid e))) → (o : PlainOwner) → Contains (box_on grid p steps).owners o → P o
  each_owner h g o i = elim (of_joined (step_owners 1 box_steps) (timed_owners (length box_steps + 1) box_timed) o i) [ inl a ↦ of_step h o a | inr b ↦ of_timed g o b ]

-- ---- steps and events

none_is_not : {X : Type 0} (x : X) → Some x ≡ None → ⊥
none_is_not x e = cc

module _ (p : PlainProblem) (steps : List PlainPlaced) (plan : IsPlan p steps) (simple : HasPlainSimpleActions p) (grid : ℕ) (pg : 0 < grid) (lie : lie_on grid (times_of p steps) ≡ true) (k : ℕ) (pk : 0 < k) where
  abbrev new : List Atom
  new = atoms_of_plan p steps

  action_of_task : (s : PlainPlaced) → Contains steps s → IsActionOf (plan_task p steps) (action_by p new s.chosen)
  action_of_task s i = λ kept.
      let passes : is_kept_step p s ≡ true = keeps_from p new s.chosen (step_in_plan p steps s i) (instant_free p s.chosen simple (step_choice p steps plan s i)) kept in
      member_map (λ (s : PlainPlaced). action_by p new s.chosen) (kept_steps p steps) s (kept_member (is_kept_step p) steps s i passes)

  step_lies : (s : PlainPlaced) → Contains steps s → lies_on grid s.timed ≡ true
  step_lies s i = each_passes (lies_on grid) (step_times steps) (left_true (list_all (lies_on grid) (step_times steps)) (list_all (event_lies_on grid) p.timed) lie) s.timed (member_map (λ (s : PlainPlaced). s.timed) steps s i)

  -- the moments of a step on the finer grid
  abbrev Lasts : PlainPlaced → Type 0
  Lasts s = (k * (moments_of grid s.timed).start < k * (moments_of grid s.timed).low) × (k * (moments_of grid s.timed).low ≤ k * (moments_of grid s.timed).high)

  pub lasts_finer : (s : PlainPlaced) → Contains steps s → lasts s.chosen.duration ≡ true → Lasts s
  lasts_finer s i l =
      let m = step_lasts p s (each_of (IsStepOf p) steps plan s i) (step_choice p steps plan s i) l grid pg (step_lies s i) in
      let same : k ≤ k = omega arith in
      (mul-lt-mul_of_pos_left m.0 pk, mul-le-mul same m.1)

  lasting_at : (s : PlainPlaced) (takes : Bool) (finish : PlainHappening) → (takes ≡ true → Lasts s) → IfSome (if takes then Some finish else None) (λ e. Lasts s)
  lasting_at s true finish h = h refl
  lasting_at s false finish h = tt

  instant_at : (takes : Bool) (finish : PlainHappening) (over : Formula) → (if takes then Some finish else None) ≡ None → (if takes then over else Always) ≡ Always
  instant_at true finish over e = absurd (none_is_not finish e)
  instant_at false finish over e = refl

  step_is : (number : ℕ) (s : PlainPlaced) → Contains steps s → boxes.IsStepOf (action_by p new s.chosen) (finer_owner k (step_owner number (step_in p new grid steps s)))
  step_is number s i =
      let c = s.chosen in
      let finish = happening p new c.end_cond c.end_adds c.end_dels in
      record {
        first = refl;
        last = refl;
        inside = ((step_in p new grid steps s).key, refl);
        lasting = lasting_at s (lasts c.duration) finish (lasts_finer s i);
        instant = instant_at (lasts c.duration) finish (left_of p new c.over_all);
      }

  step_owned : (number : ℕ) (s : PlainPlaced) → Contains steps s → IsOwnerIn (plan_task p steps) (finer_owner k (step_owner number (step_in p new grid steps s)))
  step_owned number s i = inl (action_by p new s.chosen, action_of_task s i, step_is number s i)

  timed_owned : (number : ℕ) (e : PlainTimedFact) → Contains p.timed e → IsOwnerIn (plan_task p steps) (finer_owner k (timed_owner number (timed_in new grid e)))
  timed_owned number e i = inr (timed_event_by new e, member_map (timed_event_by new) p.timed e i, record { first = refl; last = refl })

  pub plan_box : IsBoxOf (plan_task p steps) (finer_box k (box_on grid p steps))
  plan_box = record {
    owners = all_mapped (finer_owner k) (IsOwnerIn (plan_task p steps)) (box_on grid p steps).owners (each_owner p steps grid (λ o. IsOwnerIn (plan_task p steps) (finer_owner k o)) step_owned timed_owned);
    initial = λ a. refl;
    goal = refl;
  }
