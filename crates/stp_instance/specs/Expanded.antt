-- Conditions over ground atoms, and what a condition is under a binding once its quantifiers are expanded.
use Rattle.std.specs.Prelude.{ℕ, List, [], ◌∷◌, ◌++◌, map, length, filter, slice_index}
use Rattle.std.specs.List.{flat_map, range_with_len}
use Rattle.stp_types.specs.Forest.{is_below}
use Rattle.stp_schema.specs.Rows.{Thing}
use Rattle.stp_schema.specs.Formula.{Formula, Formulas, Atom as Holds, Same as Equal, Not as Negation, And as Each, Or as Either, Every as ForEach, Any as ForAny, NoMore as NoFormulas, More as And}
use Rattle.stp_tables.specs.Atoms.{Atom}
use Rattle.stp_instance.specs.Bindings.{object_of, objects_of}

-- a ground atom, an equality of two objects, or what is made of others
mutual
  pub data Claim : Type 0 where
    Stated : (atom : Atom) → Claim
    Alike : (one other : ℕ) → Claim
    Denied : (inner : Claim) → Claim
    AllOf : (members : Claims) → Claim
    AnyOf : (members : Claims) → Claim

  pub data Claims : Type 0 where
    NoClaims : Claims
    Also : (first : Claim) → (rest : Claims) → Claims

abbrev pub claims_of : List Claim → Claims
claims_of [] = NoClaims
claims_of (c ∷ cs) = Also c (claims_of cs)

-- the objects, by their numbers, that are of a type or of one below it, in order
abbrev pub objects_below : List ℕ → List Thing → ℕ → List ℕ
objects_below parents objects kind = filter (λ n. is_below parents (slice_index (map (λ o. o.kind) objects) n) kind) (range_with_len 0 (length objects))

-- all bindings of variables of these types in dictionary order, the first variable slowest
abbrev pub bindings_of : {K : Type 0} → (K → List ℕ) → List K → List (List ℕ)
bindings_of below [] = [] ∷ []
bindings_of below (kind ∷ kinds) = flat_map (λ object. map (λ others. object ∷ others) (bindings_of below kinds)) (below kind)

-- A condition under a binding. A quantifier becomes the conjunction, or the disjunction, of its instances.
abbrev mutual
  pub expanded : (ℕ → List ℕ) → List ℕ → Formula → Claim
  expanded below binding (Holds symbol terms) = Stated (record { predicate = symbol; args = objects_of binding terms })
  expanded below binding (Equal one other) = Alike (object_of binding one) (object_of binding other)
  expanded below binding (Negation inner) = Denied (expanded below binding inner)
  expanded below binding (Each members) = AllOf (expanded_all below binding members)
  expanded below binding (Either members) = AnyOf (expanded_all below binding members)
  expanded below binding (ForEach kinds body) = AllOf (claims_of (map (λ objects. expanded below (binding ++ objects) body) (bindings_of below kinds)))
  expanded below binding (ForAny kinds body) = AnyOf (claims_of (map (λ objects. expanded below (binding ++ objects) body) (bindings_of below kinds)))

  pub expanded_all : (ℕ → List ℕ) → List ℕ → Formulas → Claims
  expanded_all below binding NoFormulas = NoClaims
  expanded_all below binding (And first rest) = Also (expanded below binding first) (expanded_all below binding rest)
