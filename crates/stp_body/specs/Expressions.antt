-- What a tree says as an expression.
use Rattle.std.specs.Prelude.{ℕ, List, [], ◌∷◌, Result, Ok, Err, pos}
use Rattle.stp_text.specs.Tree.{Tree, Trees, Word, Node, NoMore, More}
use Rattle.stp_refusal.specs.declared.code.Code.TheVariants.{D24}
use Rattle.stp_refusal.specs.Read.{Read, fine, bad, map_read, pair_read}
use Rattle.stp_frac.specs.Fractions.{Fraction, zero}
use Rattle.stp_frac.specs.Reading.{number_of}
use Rattle.stp_frac.specs.declared.fault.NumberFault.{NumberFault}
use Rattle.stp_schema.specs.Known.{Known}
use Rattle.stp_schema.specs.Formula.{PlainAtom}
use Rattle.stp_schema.specs.Expression.{Expression, Number, Value, Plus, Minus, Times, Over}
use Rattle.stp_condition.specs.declared.key.Operator.{Operator}
use Rattle.stp_condition.specs.declared.key.Operator.TheVariants as operators
use Rattle.stp_condition.specs.declared.key.Key.{Key}
use Rattle.stp_condition.specs.declared.key.Key.TheVariants as keys
use Rattle.stp_condition.specs.declared.atom.SymbolKind.TheVariants.{Function}
use Rattle.stp_body.specs.declared.join.Join.{Join}
use Rattle.stp_body.specs.declared.join.Join.TheVariants as joins
use Rattle.stp_condition.specs.Scope.{Var}
use Rattle.stp_condition.specs.Keys.{key_of}
use Rattle.stp_condition.specs.Atoms.{atom_read}

-- what stands in the place of an expression that does not match
abbrev pub nothing : Expression
nothing = Value 0 []

-- an offence at a place
abbrev pub wrong : ℕ → Read Expression
wrong at = bad at D24 nothing

abbrev pub amount : ℕ → Result Fraction NumberFault → Read Expression
amount at (Ok number) = fine (Number number)
amount at (Err fault) = wrong at

-- a word says its number
abbrev pub number_read : ℕ → List ℕ → Read Expression
number_read at text = amount at (number_of text)

abbrev pub value_of_atom : PlainAtom → Expression
value_of_atom a = Value a.symbol a.terms

-- the value of a function at its terms
abbrev pub function_read : Known → List Var → ℕ → List ℕ → Trees → Read Expression
function_read k scope at name ts = map_read value_of_atom (atom_read Function k scope at name ts)

abbrev pub zero_amount : Expression
zero_amount = Number zero

abbrev pub negated : Expression → Expression
negated e = Minus zero_amount e

-- two expressions joined
abbrev pub joined : Join → Expression → Expression → Expression
joined joins.Sum = Plus
joined joins.Difference = Minus
joined joins.Product = Times
joined joins.Quotient = Over

-- the first joined with each further one, from left to right
abbrev pub from_left : Join → Read Expression → List (Read Expression) → Read Expression
from_left join so_far [] = so_far
from_left join so_far (e ∷ es) = from_left join (pair_read (joined join) so_far e) es

-- two or more, joined from left to right
abbrev pub chained : Join → ℕ → List (Read Expression) → Read Expression
chained join at [] = wrong at
chained join at (e ∷ []) = wrong at
chained join at (e ∷ f ∷ es) = from_left join e (f ∷ es)

-- exactly two
abbrev pub paired : Join → ℕ → List (Read Expression) → Read Expression
paired join at [] = wrong at
paired join at (e ∷ []) = wrong at
paired join at (e ∷ f ∷ []) = pair_read (joined join) e f
paired join at (e ∷ f ∷ g ∷ es) = wrong at

-- 0 minus the one, or a difference of two
abbrev pub subtracted : ℕ → List (Read Expression) → Read Expression
subtracted at [] = wrong at
subtracted at (e ∷ []) = map_read negated e
subtracted at (e ∷ f ∷ es) = paired joins.Difference at (e ∷ f ∷ es)

-- an operator, and what the items behind it say
abbrev pub operated : Operator → ℕ → List (Read Expression) → Read Expression
operated operators.Plus at es = chained joins.Sum at es
operated operators.Times at es = chained joins.Product at es
operated operators.Minus at es = subtracted at es
operated operators.Over at es = paired joins.Quotient at es

-- a list by what its first word begins
abbrev pub by_key : Key → Known → List Var → ℕ → List ℕ → Trees → List (Read Expression) → Read Expression
by_key keys.Symbol k scope at name ts es = function_read k scope at name ts
by_key (keys.Arithmetic operator) k scope at name ts es = operated operator at es
by_key keys.Equal k scope at name ts es = wrong at
by_key keys.Not k scope at name ts es = wrong at
by_key keys.And k scope at name ts es = wrong at
by_key keys.Or k scope at name ts es = wrong at
by_key keys.Imply k scope at name ts es = wrong at
by_key keys.Forall k scope at name ts es = wrong at
by_key keys.Exists k scope at name ts es = wrong at
by_key keys.Comparison k scope at name ts es = wrong at
by_key keys.Preference k scope at name ts es = wrong at
by_key keys.When k scope at name ts es = wrong at
by_key keys.Change k scope at name ts es = wrong at

-- a list by its first item; behind it stand items that say this as expressions
abbrev pub by_head : Known → List Var → ℕ → Trees → List (Read Expression) → Read Expression
by_head k scope at NoMore es = wrong at
by_head k scope at (More (Node place items) ts) es = wrong at
by_head k scope at (More (Word place text) ts) [] = wrong at
by_head k scope at (More (Word place text) ts) (e ∷ es) = by_key (key_of text) k scope at text ts es

-- what a tree says, and what each of several says
unfoldable mutual
  pub expression_read : Known → List Var → Tree → Read Expression
  expression_read k scope (Word at text) = number_read at text
  expression_read k scope (Node at items) = by_head k scope at items (each_read k scope items)

  pub each_read : Known → List Var → Trees → List (Read Expression)
  each_read k scope NoMore = []
  each_read k scope (More t ts) = expression_read k scope t ∷ each_read k scope ts
