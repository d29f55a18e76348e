-- Kept instances whose objects begin alike, by the next object; lists that gain them.
use Rattle.std.proofs.Common.{◌≡◌, ℕ, ◌≤◌, Bool, List, [], ◌∷◌, ◌++◌, length, map, take, drop, ◌-◌, get_or, flat_map, refl, ap, sym, ◌∙◌, append_assoc, arith, subst}
use Rattle.std.proofs.lemmas.List.Concat.{flat_map-cons}
use Rattle.stp_base.specs.declared.ids.ObjectId.{ObjectId}
use Rattle.stp_schema.specs.Schemas.{PlainSchema}
use Rattle.stp_schema.specs.Views.{PlainProblem}
use Rattle.stp_instance.specs.Bindings.{numbers_of}
use Rattle.stp_instance.specs.Expanded.{bindings_of}
use Rattle.stp_ground.specs.Problems.{below}
use Rattle.stp_kept.specs.Instances.{PlainInstance, kept_under, kept_with}
use Rattle.stp_kept.specs.Views.{Lists}

flat_again : {X Y Z : Type 0} (f : Y → List Z) (g : X → List Y) (xs : List X) → flat_map f (flat_map g xs) ≡ flat_map (λ x. flat_map f (g x)) xs
flat_again f g [] = refl
flat_again f g (x ∷ xs) =
    ap (flat_map f) (flat_map-cons g x xs)
    ∙ flat_both f (g x) (flat_map g xs)
    ∙ ap (λ l. flat_map f (g x) ++ l) (flat_again f g xs)
    ∙ sym (flat_map-cons (λ y. flat_map f (g y)) x xs)
  where
    flat_both : {Y Z : Type 0} (f : Y → List Z) (ys zs : List Y) → flat_map f (ys ++ zs) ≡ flat_map f ys ++ flat_map f zs
    flat_both f [] zs = refl
    flat_both f (y ∷ ys) zs =
        flat_map-cons f y (ys ++ zs) ∙ ap (λ l. f y ++ l) (flat_both f ys zs) ∙ sym (append_assoc (f y) (flat_map f ys) (flat_map f zs)) ∙ ap (λ l. l ++ flat_map f zs) (sym (flat_map-cons f y ys))

module _ (p : PlainProblem) (number : ℕ) (schema : PlainSchema) where
  first_on : (bound : List ℕ) (object : ℕ) (rests : List (List ℕ)) → flat_map (λ others. kept_under p number schema (bound ++ others)) (map (λ others. object ∷ others) rests) ≡ flat_map (λ others. kept_under p number schema ((bound ++ object ∷ []) ++ others)) rests
  first_on bound object [] = refl
  first_on bound object (r ∷ rests) =
      flat_map-cons (λ others. kept_under p number schema (bound ++ others)) (object ∷ r) (map (λ others. object ∷ others) rests)
      ∙ ap (λ l. kept_under p number schema l ++ flat_map (λ others. kept_under p number schema (bound ++ others)) (map (λ others. object ∷ others) rests)) (sym (append_assoc bound (object ∷ []) r))
      ∙ ap (λ l. kept_under p number schema ((bound ++ object ∷ []) ++ r) ++ l) (first_on bound object rests)
      ∙ sym (flat_map-cons (λ others. kept_under p number schema ((bound ++ object ∷ []) ++ others)) r rests)

  -- those with each of these objects next
  abbrev pub kept_by : List ℕ → List ℕ → List ℕ → List PlainInstance
  kept_by bound kinds objects = flat_map (λ object. kept_with p number schema (bound ++ object ∷ []) kinds) objects

  pub by_next : (bound : List ℕ) (kind : ℕ) (kinds : List ℕ) → kept_with p number schema bound (kind ∷ kinds) ≡ kept_by bound kinds (below p kind)
  by_next bound kind kinds =
      flat_again (λ others. kept_under p number schema (bound ++ others)) (λ object. map (λ others. object ∷ others) (bindings_of (below p) kinds)) (below p kind)
      ∙ each (below p kind)
    where
      each : (objects : List ℕ) → flat_map (λ object. flat_map (λ others. kept_under p number schema (bound ++ others)) (map (λ others. object ∷ others) (bindings_of (below p) kinds))) objects ≡ kept_by bound kinds objects
      each [] = refl
      each (o ∷ os) =
          flat_map-cons (λ object. flat_map (λ others. kept_under p number schema (bound ++ others)) (map (λ others. object ∷ others) (bindings_of (below p) kinds))) o os
          ∙ ap (λ l. l ++ flat_map (λ object. flat_map (λ others. kept_under p number schema (bound ++ others)) (map (λ others. object ∷ others) (bindings_of (below p) kinds))) os) (first_on bound o (bindings_of (below p) kinds))
          ∙ ap (λ l. kept_with p number schema (bound ++ o ∷ []) kinds ++ l) (each os)
          ∙ sym (flat_map-cons (λ object. kept_with p number schema (bound ++ object ∷ []) kinds) o os)

  by_numbers : (bound kinds : List ℕ) (objects : List ObjectId) → flat_map (λ o. kept_with p number schema (bound ++ o.0 ∷ []) kinds) objects ≡ kept_by bound kinds (numbers_of objects)
  by_numbers bound kinds [] = refl
  by_numbers bound kinds (o ∷ os) = ap (λ l. kept_with p number schema (bound ++ o.0 ∷ []) kinds ++ l) (by_numbers bound kinds os)

  -- what is listed with each object as the next
  pub lists_by_next : (bound : List ℕ) (kind : ℕ) (kinds : List ℕ) (objects : List ObjectId) (listed : Bool) (old new : List PlainInstance) → numbers_of objects ≡ below p kind → Lists listed old new (flat_map (λ o. kept_with p number schema (bound ++ o.0 ∷ []) kinds) objects) → Lists listed old new (kept_with p number schema bound (kind ∷ kinds))
  lists_by_next bound kind kinds objects listed old new e lists =
      subst (Lists listed old new) (by_numbers bound kinds objects ∙ ap (kept_by bound kinds) e ∙ sym (by_next bound kind kinds)) lists

  pub lists_by_first : (bound kinds : List ℕ) (objects : List ObjectId) (listed : Bool) (old new : List PlainInstance) → 1 ≤ length kinds → numbers_of objects ≡ below p (get_or kinds 0 0) → Lists listed old new (flat_map (λ o. kept_with p number schema (bound ++ o.0 ∷ []) (take (length kinds - 1) (drop 1 kinds))) objects) → Lists listed old new (kept_with p number schema bound kinds)
  lists_by_first bound [] objects listed old new h e lists = absurd (omega arith)
  lists_by_first bound (kind ∷ kinds) objects listed old new h e lists =
      let n : length (kind ∷ kinds) - 1 ≡ length kinds = omega arith in
      lists_by_next bound kind kinds objects listed old new e (subst (λ l. Lists listed old new (flat_map (λ o. kept_with p number schema (bound ++ o.0 ∷ []) l) objects)) (ap (λ k. take k kinds) n ∙ take-all kinds) lists)
    where
      take-all : (xs : List ℕ) → take (length xs) xs ≡ xs
      take-all [] = refl
      take-all (x ∷ xs) = ap (λ l. x ∷ l) (take-all xs)
