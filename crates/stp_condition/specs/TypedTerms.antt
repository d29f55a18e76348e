-- Terms and atoms that fit their places.
use Rattle.std.specs.Prelude.{◌≡◌, ℕ, true, List, [], ◌∷◌, Option, Some, slice_get, option_map}
use Rattle.stp_text.specs.Tree.{Tree, Trees}
use Rattle.stp_schema.specs.declared.lifted.Term.{Term}
use Rattle.stp_schema.specs.declared.lifted.Term.TheVariants as terms
use Rattle.stp_schema.specs.Rows.{Shape}
use Rattle.stp_schema.specs.Known.{Known}
use Rattle.stp_schema.specs.Formula.{PlainAtom}
use Rattle.stp_condition.specs.declared.atom.SymbolKind.{SymbolKind}
use Rattle.stp_condition.specs.Scope.{Var, kinds_of}
use Rattle.stp_condition.specs.Terms.{fits, term_read}
use Rattle.stp_condition.specs.Atoms.{shapes_of, atom_read}

-- the type of what a term stands for: a variable of these types, or an object
abbrev pub kind_in : Known → List ℕ → Term → Option ℕ
kind_in k kinds (terms.Variable number) = slice_get kinds number
kind_in k kinds (terms.Object object) = option_map (λ t. t.kind) (slice_get k.objects object.0)

-- a term stands for something, whose type is that of the place or below it
pub record IsTermTyped (k : Known) (kinds : List ℕ) (place : Option ℕ) (term : Term) : Type 0 where
  pub kind : ℕ
  pub has_kind : kind_in k kinds term ≡ Some kind
  pub is_fit : fits k.parents place kind ≡ true

-- a term for each place, and no more
abbrev pub AreTermsTyped : Known → List ℕ → List ℕ → List Term → Type 0
AreTermsTyped k kinds [] [] = Unit {0}
AreTermsTyped k kinds [] (t ∷ ts) = ⊥
AreTermsTyped k kinds (p ∷ ps) [] = ⊥
AreTermsTyped k kinds (p ∷ ps) (t ∷ ts) = IsTermTyped k kinds (Some p) t × AreTermsTyped k kinds ps ts

-- an atom of a declared symbol, with a term for each of its parameters
pub record IsAtomTyped (kind : SymbolKind) (k : Known) (kinds : List ℕ) (atom : PlainAtom) : Type 0 where
  pub shape : Shape
  pub is_declared : slice_get (shapes_of kind k.predicates k.functions) atom.symbol ≡ Some shape
  pub fit_terms : AreTermsTyped k kinds shape.parameters atom.terms

-- what is read without an offence is typed
pub record ReadTermsAreTyped : Type 0 where
  pub terms : (k : Known) (scope : List Var) (place : Option ℕ) (tree : Tree) → (term_read k scope place tree).offences ≡ [] → IsTermTyped k (kinds_of scope) place (term_read k scope place tree).value
  pub atoms : (kind : SymbolKind) (k : Known) (scope : List Var) (at : ℕ) (name : List ℕ) (ts : Trees) → (atom_read kind k scope at name ts).offences ≡ [] → IsAtomTyped kind k (kinds_of scope) (atom_read kind k scope at name ts).value
