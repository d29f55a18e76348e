-- Durations that fit what is declared.
use Rattle.std.specs.Prelude.{◌≡◌, ℕ, List, []}
use Rattle.stp_text.specs.Tree.{Tree}
use Rattle.stp_schema.specs.Known.{Known}
use Rattle.stp_schema.specs.Expression.{Expression, Number, Value, Plus, Minus, Times, Over}
use Rattle.stp_condition.specs.declared.atom.SymbolKind.TheVariants.{Function}
use Rattle.stp_condition.specs.Scope.{Var, kinds_of}
use Rattle.stp_condition.specs.Atoms.{atom_with}
use Rattle.stp_condition.specs.TypedTerms.{IsAtomTyped}
use Rattle.stp_body.specs.Expressions.{expression_read}
use Rattle.stp_body.specs.Durations.{PlainBounds, duration_read}

-- In the scope of variables of these types: each value is that of a declared function, with a term for each of its parameters that fits its place.
abbrev pub IsExpressionTyped : Known → List ℕ → Expression → Type 0
IsExpressionTyped k kinds (Number number) = Unit {0}
IsExpressionTyped k kinds (Value symbol terms) = IsAtomTyped Function k kinds (atom_with symbol terms)
IsExpressionTyped k kinds (Plus one other) = IsExpressionTyped k kinds one × IsExpressionTyped k kinds other
IsExpressionTyped k kinds (Minus one other) = IsExpressionTyped k kinds one × IsExpressionTyped k kinds other
IsExpressionTyped k kinds (Times one other) = IsExpressionTyped k kinds one × IsExpressionTyped k kinds other
IsExpressionTyped k kinds (Over one other) = IsExpressionTyped k kinds one × IsExpressionTyped k kinds other

pub record AreBoundsTyped (k : Known) (kinds : List ℕ) (bounds : PlainBounds) : Type 0 where
  pub low : IsExpressionTyped k kinds bounds.low
  pub high : IsExpressionTyped k kinds bounds.high

-- what is read without an offence is typed
pub record ReadDurationsAreTyped : Type 0 where
  pub expressions : (k : Known) (scope : List Var) (tree : Tree) → (expression_read k scope tree).offences ≡ [] → IsExpressionTyped k (kinds_of scope) (expression_read k scope tree).value
  pub durations : (k : Known) (scope : List Var) (tree : Tree) → (duration_read k scope tree).offences ≡ [] → AreBoundsTyped k (kinds_of scope) (duration_read k scope tree).value
