-- Laws of numbers, and of expanded and folded conditions.
use Rattle.std.specs.Prelude.{◌≡◌, ◌↔◌, ℕ, ◌<◌, Bool, true, false, not, ◌&&◌, ◌||◌, ◌==◌, if◌then◌else◌, List, [], ◌∷◌, ◌++◌, length, map, slice_index, Option, None, Some, Contains}
use Rattle.std.specs.List.{list_any, count_by}
use Rattle.stp_types.specs.Forest.{is_below}
use Rattle.stp_schema.specs.Rows.{Thing}
use Rattle.stp_schema.specs.Formula.{Formula, Every as ForEach, Any as ForAny}
use Rattle.stp_tables.specs.Atoms.{Atom, is_atom, number_of}
use Rattle.stp_cond.specs.Formulas.{holds_in}
use Rattle.stp_instance.specs.Expanded.{Claim, Claims, Stated, Alike, Denied, AllOf, AnyOf, NoClaims, Also, objects_below, expanded}
use Rattle.stp_instance.specs.Numbered.{is_in, with_atoms, IsGrown, numbered, folded_ground}

-- A table that gains atoms keeps the numbers that it has given.
pub record NumbersStay : Type 0 where
  pub grown : (table atoms : List Atom) → IsGrown table (with_atoms table atoms)
  pub stay : (old new : List Atom) (atom : Atom) (number : ℕ) → IsGrown old new → number_of old atom ≡ Some number → number_of new atom ≡ Some number

-- It has each of these atoms afterwards, those that it did not have once, and of the others as many as before.
pub record AtomsAreGained : Type 0 where
  pub each : (table atoms : List Atom) (atom : Atom) → Contains atoms atom → is_in (with_atoms table atoms) atom ≡ true
  pub once : (table atoms : List Atom) (atom : Atom) → count_by (is_atom atom) (with_atoms table atoms) ≡ (if is_in table atom then count_by (is_atom atom) table else (if list_any (is_atom atom) atoms then 1 else 0))

-- the truth of a condition where it is known which atoms are true
abbrev mutual
  pub is_so : (Atom → Bool) → Claim → Bool
  is_so facts (Stated atom) = facts atom
  is_so facts (Alike one other) = one == other
  is_so facts (Denied inner) = not (is_so facts inner)
  is_so facts (AllOf members) = all_are_so facts members
  is_so facts (AnyOf members) = one_is_so facts members

  pub all_are_so : (Atom → Bool) → Claims → Bool
  all_are_so facts NoClaims = true
  all_are_so facts (Also first rest) = is_so facts first && all_are_so facts rest

  pub one_is_so : (Atom → Bool) → Claims → Bool
  one_is_so facts NoClaims = false
  one_is_so facts (Also first rest) = is_so facts first || one_is_so facts rest

abbrev pub value_in : (ℕ → Bool) → Option ℕ → Bool
value_in state None = false
value_in state (Some number) = state number

-- the atoms that are true: of the fluent ones those whose numbers are, and of the others those that are known to be
abbrev pub facts_in : (ℕ → Bool) → (Atom → Bool) → List Atom → (ℕ → Bool) → Atom → Bool
facts_in fluent is_true table state atom = if fluent atom.predicate then value_in state (number_of table atom) else is_true atom

-- A condition by numbers, and what is left of it, hold in a state exactly where the condition is so.
pub record NumbersKeepTruth : Type 0 where
  pub numbered : (fluent : ℕ → Bool) (is_true : Atom → Bool) (table : List Atom) (state : ℕ → Bool) (claim : Claim) → holds_in state (numbered fluent is_true table claim) ≡ is_so (facts_in fluent is_true table state) claim
  pub folded : (fluent : ℕ → Bool) (is_true : Atom → Bool) (table : List Atom) (state : ℕ → Bool) (claim : Claim) → holds_in state (folded_ground fluent is_true table claim) ≡ is_so (facts_in fluent is_true table state) claim

-- one object of each of these types
abbrev pub AreOf : (ℕ → List ℕ) → List ℕ → List ℕ → Type 0
AreOf below [] [] = Unit {0}
AreOf below [] (object ∷ objects) = ⊥
AreOf below (kind ∷ kinds) [] = ⊥
AreOf below (kind ∷ kinds) (object ∷ objects) = Contains (below kind) object × AreOf below kinds objects

-- A quantified condition is so exactly where its body is so for all objects of the types, or for some.
pub record QuantifiersRange : Type 0 where
  pub members : (parents : List ℕ) (objects : List Thing) (kind number : ℕ) → Contains (objects_below parents objects kind) number ↔ ((number < length objects) × (is_below parents (slice_index (map (λ o. o.kind) objects) number) kind ≡ true))
  pub each : (facts : Atom → Bool) (below : ℕ → List ℕ) (binding kinds : List ℕ) (body : Formula) → (is_so facts (expanded below binding (ForEach kinds body)) ≡ true) ↔ ((objects : List ℕ) → AreOf below kinds objects → is_so facts (expanded below (binding ++ objects) body) ≡ true)
  pub some : (facts : Atom → Bool) (below : ℕ → List ℕ) (binding kinds : List ℕ) (body : Formula) → (is_so facts (expanded below binding (ForAny kinds body)) ≡ true) ↔ ((objects : List ℕ) × AreOf below kinds objects × (is_so facts (expanded below (binding ++ objects) body) ≡ true))
