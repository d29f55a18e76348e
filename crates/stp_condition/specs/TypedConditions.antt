-- Conditions that fit what is declared.
use Rattle.std.specs.Prelude.{◌≡◌, ℕ, ◌<◌, List, [], ◌∷◌, ◌++◌, None, length}
use Rattle.stp_text.specs.Tree.{Tree}
use Rattle.stp_schema.specs.Known.{Known}
use Rattle.stp_schema.specs.Formula.{Formula, Formulas, Atom, Same, Not, And, Or, Every, Any, NoMore, More}
use Rattle.stp_condition.specs.declared.atom.SymbolKind.TheVariants.{Predicate}
use Rattle.stp_condition.specs.Scope.{Var, kinds_of}
use Rattle.stp_condition.specs.Atoms.{atom_with}
use Rattle.stp_condition.specs.TypedTerms.{IsTermTyped, IsAtomTyped}
use Rattle.stp_condition.specs.Conditions.{condition_read}

-- each of these is the number of a type
abbrev pub AreTypes : Known → List ℕ → Type 0
AreTypes k [] = Unit {0}
AreTypes k (kind ∷ kinds) = (kind < length k.types) × AreTypes k kinds

-- In the scope of variables of these types: each atom is that of a declared predicate with a term for each of its parameters, each term stands
-- for a variable or an object of a type that fits its place, and a quantifier's variables have types.
abbrev mutual
  pub IsTyped : Known → List ℕ → Formula → Type 0
  IsTyped k scope (Atom symbol terms) = IsAtomTyped Predicate k scope (atom_with symbol terms)
  IsTyped k scope (Same one other) = IsTermTyped k scope None one × IsTermTyped k scope None other
  IsTyped k scope (Not inner) = IsTyped k scope inner
  IsTyped k scope (And members) = AreTyped k scope members
  IsTyped k scope (Or members) = AreTyped k scope members
  IsTyped k scope (Every kinds body) = AreTypes k kinds × IsTyped k (scope ++ kinds) body
  IsTyped k scope (Any kinds body) = AreTypes k kinds × IsTyped k (scope ++ kinds) body

  pub AreTyped : Known → List ℕ → Formulas → Type 0
  AreTyped k scope NoMore = Unit {0}
  AreTyped k scope (More f fs) = IsTyped k scope f × AreTyped k scope fs

-- where there is a type, what is read without an offence is typed
abbrev pub ReadConditionsAreTyped : Type 0
ReadConditionsAreTyped = (k : Known) (tree : Tree) (scope : List Var) → 0 < length k.types → (condition_read k tree scope).offences ≡ [] → IsTyped k (kinds_of scope) (condition_read k tree scope).value
