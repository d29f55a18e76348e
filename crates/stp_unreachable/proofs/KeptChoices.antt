-- What is chosen is a kept instance where what is static makes none of its conditions false.
use Rattle.std.proofs.Common.{◌≡◌, ℕ, zero, suc, ◌+◌, Bool, true, false, not, ◌&&◌, if◌then◌else◌, List, [], ◌∷◌, ◌++◌, Option, Some, None, option_map, Contains, refl, sym, ap, ◌∙◌, subst, arith, true≢false}
use Rattle.std.specs.Prelude.{slice_get}
use Rattle.std.specs.Ordering.{is_eq}
use Rattle.std.proofs.lemmas.Option.{slice_get_within, get_or_from_slice_get}
use Rattle.stp_schema.specs.Formula.{Formula, nothing}
use Rattle.stp_schema.specs.Schemas.{PlainSchema, PlainTiming, Instant, Controlled, Uncertain}
use Rattle.stp_schema.specs.Views.{PlainProblem}
use Rattle.stp_frac.specs.Fractions.{Fraction, order_of}
use Rattle.stp_happen.proofs.Members.{each_of, here}
use Rattle.stp_task.specs.Durations.{PlainDuration, Controlled as Chosen, Uncertain as Suffered, lasts}
use Rattle.stp_instance.specs.Expanded.{bindings_of, expanded}
use Rattle.stp_instance.specs.Timings.{duration_of, bounds_of, controlled, uncertain}
use Rattle.stp_instance.specs.Values.{value}
use Rattle.stp_ground.specs.Problems.{below}
use Rattle.stp_ground.specs.Chosen.{PlainChosen}
use Rattle.stp_kept.specs.Settled.{folds_to_false}
use Rattle.stp_kept.specs.Instances.{PlainInstance, chosen_of, if_kept, instance_of, instance_with, is_kept, kept, kept_from, kept_of_schema, kept_under}
use Rattle.stp_unreachable.specs.PlansOf.{HasPlainEnd, HasPlainSimpleActions}
use Rattle.stp_unreachable.proofs.Choosing.{IsChoice, member_flat, member_left, member_right}

-- ---- kept instances

-- what is static makes none of its conditions false
abbrev pub keeps : PlainProblem → PlainChosen → Bool
keeps p c = not (folds_to_false p c.start_cond) && (not (folds_to_false p c.over_all) && not (folds_to_false p c.end_cond))

module _ (p : PlainProblem) where
  under_schemas : (start k : ℕ) (schemas : List PlainSchema) (s : PlainSchema) (i : PlainInstance) → slice_get schemas k ≡ Some s → Contains (kept_of_schema p (start + k) s) i → Contains (kept_from p start schemas) i
  under_schemas start k [] s i e j = absurd (omega (arith, slice_get_within [] k s e))
  under_schemas start zero (t ∷ ts) s i e j =
      let same : t ≡ s = get_or_from_slice_get (t ∷ ts) 0 s s e in
      let number : start + 0 ≡ start = omega arith in
      member_left (kept_of_schema p start t) (kept_from p (start + 1) ts) i
      (subst (λ u. Contains (kept_of_schema p start u) i) (sym same) (subst (λ n. Contains (kept_of_schema p n s) i) number j))
  under_schemas start (suc k) (t ∷ ts) s i e j =
      let number : start + suc k ≡ start + 1 + k = omega arith in
      member_right (kept_of_schema p start t) (kept_from p (start + 1) ts) i
      (under_schemas (start + 1) k ts s i e (subst (λ n. Contains (kept_of_schema p n s) i) number j))

  kept_alone : (i : PlainInstance) (o : Option PlainInstance) → o ≡ Some i → is_kept p i ≡ true → Contains (if_kept p o) i
  kept_alone i o e k =
      subst (λ o. Contains (if_kept p o) i) (sym e)
      (subst (λ b. Contains (if b then i ∷ [] else []) i) (sym k) (here i []))

  -- what is chosen is one of the kept instances
  pub record IsKeptChoice (c : PlainChosen) : Type 0 where
    pub instance : PlainInstance
    pub there : Contains (kept p) instance
    pub is : chosen_of p instance ≡ c

  pub kept_choice : (c : PlainChosen) → IsChoice p c → keeps p c ≡ true → IsKeptChoice c
  kept_choice c h k =
      let i = instance_with h.number h.schema h.objects h.lasting in
      let passes : is_kept p i ≡ true = ap (keeps p) h.is ∙ k in
      let made : instance_of p.values h.number h.schema h.objects ≡ Some i = ap (option_map (instance_with h.number h.schema h.objects)) h.lasts in
      let number : 0 + h.number ≡ h.number = omega arith in
      record {
        instance = i;
        there = under_schemas 0 h.number p.domain.schemas h.schema i h.stands
            (subst (λ n. Contains (kept_of_schema p n h.schema) i) (sym number)
            (member_flat (λ others. kept_under p h.number h.schema ([] ++ others)) (bindings_of (below p) h.schema.parameters) h.objects i h.typed
            (kept_alone i (instance_of p.values h.number h.schema h.objects) made passes)));
        is = h.is;
      }

-- ---- what takes no time

lasting_bounds : (d : PlainDuration) (o : Option (Fraction × Fraction)) (make : Fraction × Fraction → PlainDuration) → ((b : Fraction × Fraction) → lasts (make b) ≡ true) → option_map make o ≡ Some d → lasts d ≡ true
lasting_bounds d None make h e = cc
lasting_bounds d (Some b) make h e = ap lasts (some_is (make b) d e) ∙ h b
  where
    some_is : (c d : PlainDuration) → Some c ≡ Some d → d ≡ c
    some_is c d e = cc

either_lasts : (equal : Bool) (b : Fraction × Fraction) → lasts (if equal then Chosen b.0 b.1 else Suffered b.0 b.1) ≡ true
either_lasts true b = refl
either_lasts false b = refl

module _ (p : PlainProblem) (binding : List ℕ) where
  instant_timing : (t : PlainTiming) (d : PlainDuration) → duration_of p.values binding t ≡ Some d → lasts d ≡ false → t ≡ Instant
  instant_timing Instant d e l = refl
  instant_timing (Controlled low high) d e l =
      absurd (true≢false (sym (lasting_bounds d (bounds_of (value p.values binding low) (value p.values binding high)) controlled (λ b. refl) e) ∙ l))
  instant_timing (Uncertain low high) d e l =
      absurd (true≢false (sym (lasting_bounds d (bounds_of (value p.values binding low) (value p.values binding high)) uncertain (λ b. either_lasts (is_eq (order_of b.0 b.1)) b) e) ∙ l))

  nothing_left : (f : Formula) → f ≡ nothing → folds_to_false p (expanded (below p) binding f) ≡ false
  nothing_left f e = ap (λ g. folds_to_false p (expanded (below p) binding g)) e

-- what is chosen and takes no time has no condition but at its start
pub instant_free : (p : PlainProblem) (c : PlainChosen) → HasPlainSimpleActions p → IsChoice p c → lasts c.duration ≡ false → (folds_to_false p c.over_all ≡ false) × (folds_to_false p c.end_cond ≡ false)
instant_free p c simple h l =
    let duration : lasts h.lasting ≡ false = ap (λ (c : PlainChosen). lasts c.duration) h.is ∙ l in
    let timing : h.schema.timing ≡ Instant = instant_timing p h.objects h.schema.timing h.lasting h.lasts duration in
    let member : Contains p.domain.schemas h.schema = (h.number, slice_get_within p.domain.schemas h.number h.schema h.stands, get_or_from_slice_get p.domain.schemas h.number h.schema h.schema h.stands) in
    let none = each_of HasPlainEnd p.domain.schemas simple h.schema member timing in (
      ap (λ (c : PlainChosen). folds_to_false p c.over_all) (sym h.is) ∙ nothing_left p h.objects h.schema.over_all none.0,
      ap (λ (c : PlainChosen). folds_to_false p c.end_cond) (sym h.is) ∙ nothing_left p h.objects h.schema.end_cond none.1,
    )
