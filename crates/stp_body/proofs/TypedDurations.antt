-- Durations that are read without an offence are typed.
use Rattle.std.proofs.Common.{◌≡◌, ℕ, List, [], ◌∷◌, Result, Ok, Err}
use Rattle.stp_text.specs.Tree.{Tree, Trees, Word, Node, NoMore, More}
use Rattle.stp_refusal.specs.Read.{Read, pair_read}
use Rattle.stp_frac.specs.Fractions.{Fraction}
use Rattle.stp_frac.specs.Reading.{number_of}
use Rattle.stp_frac.specs.declared.fault.NumberFault.{NumberFault}
use Rattle.stp_schema.specs.Known.{Known}
use Rattle.stp_schema.specs.Expression.{Expression}
use Rattle.stp_condition.specs.declared.key.Operator.{Operator}
use Rattle.stp_condition.specs.declared.key.Operator.TheVariants as operators
use Rattle.stp_condition.specs.declared.key.Key.{Key}
use Rattle.stp_condition.specs.declared.key.Key.TheVariants as keys
use Rattle.stp_condition.specs.declared.atom.SymbolKind.TheVariants.{Function}
use Rattle.stp_condition.specs.Keys.{key_of}
use Rattle.stp_condition.specs.Scope.{Var, kinds_of}
use Rattle.stp_refusal.proofs.Saying.{none_first, none_rest}
use Rattle.stp_condition.proofs.TypedTerms.{atom_typed}
use Rattle.stp_body.specs.declared.join.Join.{Join}
use Rattle.stp_body.specs.declared.join.Join.TheVariants as joins
use Rattle.stp_body.specs.declared.duration.Relation.{Relation}
use Rattle.stp_body.specs.declared.duration.Relation.TheVariants.{Equal, AtLeast, AtMost}
use Rattle.stp_body.specs.Expressions.{amount, joined, from_left, chained, paired, subtracted, operated, by_key, by_head, expression_read, each_read}
use Rattle.stp_body.specs.Durations.{PlainBounds, PlainParts, NoParts, One, Two, fixed, bounded, bounds_read, place, parts_of, duration_read}
use Rattle.stp_body.specs.TypedDurations.{IsExpressionTyped, AreBoundsTyped}

-- what an expression says without an offence is typed
abbrev SaysTyped : Known → List Var → Read Expression → Type 0
SaysTyped k scope r = r.offences ≡ [] → IsExpressionTyped k (kinds_of scope) r.value

abbrev AllSayTyped : Known → List Var → List (Read Expression) → Type 0
AllSayTyped k scope [] = Unit {0}
AllSayTyped k scope (r ∷ rs) = SaysTyped k scope r × AllSayTyped k scope rs

abbrev BoundsTyped : Known → List Var → Read PlainBounds → Type 0
BoundsTyped k scope r = r.offences ≡ [] → AreBoundsTyped k (kinds_of scope) r.value

module _ (k : Known) (scope : List Var) where
  -- ---- expressions by their kinds

  amount_typed : (at : ℕ) (number : Result Fraction NumberFault) → SaysTyped k scope (amount at number)
  amount_typed at (Ok number) none = tt
  amount_typed at (Err fault) none = cc

  joined_typed : (join : Join) (one other : Expression) → IsExpressionTyped k (kinds_of scope) one → IsExpressionTyped k (kinds_of scope) other → IsExpressionTyped k (kinds_of scope) (joined join one other)
  joined_typed joins.Sum one other h i = (h, i)
  joined_typed joins.Difference one other h i = (h, i)
  joined_typed joins.Product one other h i = (h, i)
  joined_typed joins.Quotient one other h i = (h, i)

  pair_typed : (join : Join) (r s : Read Expression) → SaysTyped k scope r → SaysTyped k scope s → SaysTyped k scope (pair_read (joined join) r s)
  pair_typed join r s h i none = joined_typed join r.value s.value (h (none_first r.offences s.offences none)) (i (none_rest r.offences s.offences none))

  from_left_typed : (join : Join) (so_far : Read Expression) (es : List (Read Expression)) → SaysTyped k scope so_far → AllSayTyped k scope es → SaysTyped k scope (from_left join so_far es)
  from_left_typed join so_far [] h i = h
  from_left_typed join so_far (e ∷ es) h i = from_left_typed join (pair_read (joined join) so_far e) es (pair_typed join so_far e h i.0) i.1

  chained_typed : (join : Join) (at : ℕ) (es : List (Read Expression)) → AllSayTyped k scope es → SaysTyped k scope (chained join at es)
  chained_typed join at [] h none = cc
  chained_typed join at (e ∷ []) h none = cc
  chained_typed join at (e ∷ f ∷ es) h none = from_left_typed join e (f ∷ es) h.0 h.1 none

  paired_typed : (join : Join) (at : ℕ) (es : List (Read Expression)) → AllSayTyped k scope es → SaysTyped k scope (paired join at es)
  paired_typed join at [] h none = cc
  paired_typed join at (e ∷ []) h none = cc
  paired_typed join at (e ∷ f ∷ []) h none = pair_typed join e f h.0 h.1.0 none
  paired_typed join at (e ∷ f ∷ g ∷ es) h none = cc

  subtracted_typed : (at : ℕ) (es : List (Read Expression)) → AllSayTyped k scope es → SaysTyped k scope (subtracted at es)
  subtracted_typed at [] h none = cc
  subtracted_typed at (e ∷ []) h none = (tt, h.0 none)
  subtracted_typed at (e ∷ f ∷ es) h none = paired_typed joins.Difference at (e ∷ f ∷ es) h none

  operated_typed : (operator : Operator) (at : ℕ) (es : List (Read Expression)) → AllSayTyped k scope es → SaysTyped k scope (operated operator at es)
  operated_typed operators.Plus at es h none = chained_typed joins.Sum at es h none
  operated_typed operators.Times at es h none = chained_typed joins.Product at es h none
  operated_typed operators.Minus at es h none = subtracted_typed at es h none
  operated_typed operators.Over at es h none = paired_typed joins.Quotient at es h none

  key_typed : (key : Key) (at : ℕ) (name : List ℕ) (ts : Trees) (es : List (Read Expression)) → AllSayTyped k scope es → SaysTyped k scope (by_key key k scope at name ts es)
  key_typed keys.Symbol at name ts es h none = atom_typed Function k scope at name ts none
  key_typed (keys.Arithmetic operator) at name ts es h none = operated_typed operator at es h none
  key_typed keys.Equal at name ts es h none = cc
  key_typed keys.Not at name ts es h none = cc
  key_typed keys.And at name ts es h none = cc
  key_typed keys.Or at name ts es h none = cc
  key_typed keys.Imply at name ts es h none = cc
  key_typed keys.Forall at name ts es h none = cc
  key_typed keys.Exists at name ts es h none = cc
  key_typed keys.Comparison at name ts es h none = cc
  key_typed keys.Preference at name ts es h none = cc
  key_typed keys.When at name ts es h none = cc
  key_typed keys.Change at name ts es h none = cc

  head_typed : (at : ℕ) (ts : Trees) (es : List (Read Expression)) → AllSayTyped k scope es → SaysTyped k scope (by_head k scope at ts es)
  head_typed at NoMore es h none = cc
  head_typed at (More (Node place items) ts) es h none = cc
  head_typed at (More (Word place text) ts) [] h none = cc
  head_typed at (More (Word place text) ts) (e ∷ es) h none = key_typed (key_of text) at text ts es h.1 none

mutual
  unfolding expression_read each_read

  pub expression_typed : (k : Known) (scope : List Var) (tree : Tree) → SaysTyped k scope (expression_read k scope tree)
  expression_typed k scope (Word at text) = λ none. amount_typed k scope at (number_of text) none
  expression_typed k scope (Node at items) = λ none. head_typed k scope at items (each_read k scope items) (each_typed k scope items) none

  each_typed : (k : Known) (scope : List Var) (ts : Trees) → AllSayTyped k scope (each_read k scope ts)
  each_typed k scope NoMore = tt
  each_typed k scope (More t ts) = (expression_typed k scope t, each_typed k scope ts)

-- ---- durations

module _ (k : Known) (scope : List Var) where
  fixed_typed : (at : ℕ) (relation : Relation) (e : Read Expression) → SaysTyped k scope e → BoundsTyped k scope (fixed at relation e)
  fixed_typed at Equal e h none = record { low = h none; high = h none }
  fixed_typed at AtLeast e h none = cc
  fixed_typed at AtMost e h none = cc

  bounded_typed : (at : ℕ) (one other : Relation) (e f : Read Expression) → SaysTyped k scope e → SaysTyped k scope f → BoundsTyped k scope (bounded at one other e f)
  bounded_typed at AtLeast AtMost e f h i none = record { low = h (none_first e.offences f.offences none); high = i (none_rest e.offences f.offences none) }
  bounded_typed at AtMost AtLeast e f h i none = record { low = i (none_rest e.offences f.offences none); high = h (none_first e.offences f.offences none) }
  bounded_typed at AtLeast AtLeast e f h i none = cc
  bounded_typed at AtLeast Equal e f h i none = cc
  bounded_typed at AtMost AtMost e f h i none = cc
  bounded_typed at AtMost Equal e f h i none = cc
  bounded_typed at Equal other e f h i none = cc

  parts_typed : (at : ℕ) (parts : PlainParts) → BoundsTyped k scope (bounds_read k scope at parts)
  parts_typed at NoParts none = cc
  parts_typed at (One part) none = fixed_typed at part.relation (expression_read k scope part.bound) (expression_typed k scope part.bound) none
  parts_typed at (Two one other) none =
      bounded_typed at one.relation other.relation (expression_read k scope one.bound) (expression_read k scope other.bound) (expression_typed k scope one.bound) (expression_typed k scope other.bound) none

  pub duration_typed : (tree : Tree) → BoundsTyped k scope (duration_read k scope tree)
  duration_typed tree none = parts_typed (place tree) (parts_of tree) none
