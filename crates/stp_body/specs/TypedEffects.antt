-- Effects that fit what is declared.
use Rattle.std.specs.Prelude.{◌≡◌, ℕ, List, [], ◌∷◌}
use Rattle.stp_text.specs.Tree.{Tree}
use Rattle.stp_schema.specs.Known.{Known}
use Rattle.stp_schema.specs.Formula.{PlainAtom}
use Rattle.stp_condition.specs.declared.atom.SymbolKind.TheVariants.{Predicate}
use Rattle.stp_condition.specs.Scope.{Var, kinds_of}
use Rattle.stp_condition.specs.TypedTerms.{IsAtomTyped}
use Rattle.stp_body.specs.Effects.{PlainEffects, effect_read}
use Rattle.stp_body.specs.TimedEffects.{PlainTimedEffects, timed_effect_read}

-- In the scope of variables of these types: each atom is that of a declared predicate, with a term for each of its parameters that fits its place.
abbrev pub AreAtomsTyped : Known → List ℕ → List PlainAtom → Type 0
AreAtomsTyped k kinds [] = Unit {0}
AreAtomsTyped k kinds (atom ∷ atoms) = IsAtomTyped Predicate k kinds atom × AreAtomsTyped k kinds atoms

pub record AreEffectsTyped (k : Known) (kinds : List ℕ) (effects : PlainEffects) : Type 0 where
  pub adds : AreAtomsTyped k kinds effects.adds
  pub dels : AreAtomsTyped k kinds effects.dels

pub record AreTimedEffectsTyped (k : Known) (kinds : List ℕ) (effects : PlainTimedEffects) : Type 0 where
  pub start : AreEffectsTyped k kinds effects.start
  pub end : AreEffectsTyped k kinds effects.end

-- what is read without an offence is typed
pub record ReadEffectsAreTyped : Type 0 where
  pub simple : (k : Known) (scope : List Var) (tree : Tree) → (effect_read k scope tree).offences ≡ [] → AreEffectsTyped k (kinds_of scope) (effect_read k scope tree).value
  pub durative : (k : Known) (scope : List Var) (tree : Tree) → (timed_effect_read k scope tree).offences ≡ [] → AreTimedEffectsTyped k (kinds_of scope) (timed_effect_read k scope tree).value
