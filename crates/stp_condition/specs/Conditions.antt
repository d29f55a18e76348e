-- What a tree says as a condition, and its offences.
use Rattle.std.specs.Prelude.{ℕ, Bool, true, false, if◌then◌else◌, List, [], ◌∷◌, ◌++◌, Option, None}
use Rattle.stp_text.specs.Tree.{Tree, Trees, Word, Node, NoMore, More}
use Rattle.stp_refusal.specs.declared.code.Code.TheVariants.{D16, D21}
use Rattle.stp_text.specs.Items.{has_list, list_of, one_of, two_of}
use Rattle.stp_refusal.specs.Read.{Read, fine, bad, cons_read, map_read, pair_read, given}
use Rattle.stp_schema.specs.Known.{Known}
use Rattle.stp_schema.specs.Formula.{Formula, Atom, Same, Not, And, Or, Every, Any, formulas_of, nothing, PlainAtom}
use Rattle.stp_condition.specs.declared.key.Key.{Key}
use Rattle.stp_condition.specs.declared.key.Key.TheVariants as keys
use Rattle.stp_condition.specs.declared.atom.SymbolKind.TheVariants.{Predicate}
use Rattle.stp_condition.specs.Keys.{key_of}
use Rattle.stp_condition.specs.Scope.{Var, kinds_of}
use Rattle.stp_condition.specs.Terms.{term_read}
use Rattle.stp_condition.specs.Atoms.{atom_read}
use Rattle.stp_condition.specs.Variables.{variables_read, then_read}

-- ---- atoms and equalities

abbrev pub holds : PlainAtom → Formula
holds atom = Atom atom.symbol atom.terms

-- two terms of any types
abbrev pub same_read : Known → List Var → ℕ → Option (Tree × Tree) → Read Formula
same_read k scope at two = given (bad at D16 nothing) (λ p. pair_read Same (term_read k scope None p.0) (term_read k scope None p.1)) two

-- An equality is between words: lists would be numbers, which are not supported.
abbrev pub equality_read : Known → List Var → ℕ → Trees → Read Formula
equality_read k scope at ts = if has_list ts then bad at D21 nothing else same_read k scope at (two_of (list_of ts))

-- ---- conditions

-- what a tree says once the scope is known
abbrev pub Part : Type 0
Part = List Var → Read Formula

-- an item, and what it says as a condition
pub record Item : Type 0 where
  pub tree : Tree
  pub says : Part

abbrev pub all_read : List Item → List Var → Read (List Formula)
all_read [] scope = fine []
all_read (i ∷ is) scope = cons_read (i.says scope) (all_read is scope)

abbrev pub each_of : List Formula → Formula
each_of fs = And (formulas_of fs)

abbrev pub either_of : List Formula → Formula
either_of fs = Or (formulas_of fs)

-- an implication is a disjunction
abbrev pub implied : Formula → Formula → Formula
implied one other = either_of (Not one ∷ other ∷ [])

abbrev pub not_read : ℕ → Option Item → Part
not_read at one scope = given (bad at D16 nothing) (λ i. map_read Not (i.says scope)) one

abbrev pub imply_read : ℕ → Option (Item × Item) → Part
imply_read at two scope = given (bad at D16 nothing) (λ p. pair_read implied (p.0.says scope) (p.1.says scope)) two

abbrev pub quantifier : Bool → List ℕ → Formula → Formula
quantifier true = Every
quantifier false = Any

-- a body in the scope of these variables too
abbrev pub body_read : Bool → Part → List Var → List Var → Read Formula
body_read every says scope vs = map_read (quantifier every (kinds_of vs)) (says (scope ++ vs))

-- the list of variables, and the body
abbrev pub quantified_read : Bool → Known → ℕ → Option (Item × Item) → Part
quantified_read every k at two scope = given (bad at D16 nothing) (λ p. then_read (variables_read k.types p.0.tree) (body_read every p.1.says scope)) two

-- a list by what its first word begins, by that word, and by the items behind it
abbrev pub by_key : Key → Known → ℕ → List ℕ → Trees → List Item → Part
by_key keys.Equal k at text ts is scope = equality_read k scope at ts
by_key keys.Not k at text ts is scope = not_read at (one_of is) scope
by_key keys.And k at text ts is scope = map_read each_of (all_read is scope)
by_key keys.Or k at text ts is scope = map_read either_of (all_read is scope)
by_key keys.Imply k at text ts is scope = imply_read at (two_of is) scope
by_key keys.Forall k at text ts is scope = quantified_read true k at (two_of is) scope
by_key keys.Exists k at text ts is scope = quantified_read false k at (two_of is) scope
by_key keys.Comparison k at text ts is scope = bad at D21 nothing
by_key keys.Preference k at text ts is scope = bad at D21 nothing
by_key keys.When k at text ts is scope = bad at D16 nothing
by_key keys.Change k at text ts is scope = bad at D16 nothing
by_key (keys.Arithmetic operator) k at text ts is scope = bad at D16 nothing
by_key keys.Symbol k at text ts is scope = map_read holds (atom_read Predicate k scope at text ts)

-- a list by its first item; without one it is true
abbrev pub by_head : Known → ℕ → Trees → List Item → Part
by_head k at NoMore is scope = fine nothing
by_head k at (More (Node place items) ts) is scope = bad at D16 nothing
by_head k at (More (Word place text) ts) [] scope = fine nothing
by_head k at (More (Word place text) ts) (i ∷ is) scope = by_key (key_of text) k at text ts is scope

unfoldable mutual
  pub condition_read : Known → Tree → Part
  condition_read k (Word at text) = λ scope. bad at D16 nothing
  condition_read k (Node at items) = λ scope. by_head k at items (items_read k items) scope

  pub items_read : Known → Trees → List Item
  items_read k NoMore = []
  items_read k (More t ts) = record { tree = t; says = condition_read k t } ∷ items_read k ts
