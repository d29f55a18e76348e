-- What is read without an offence fits its place.
use Rattle.std.proofs.Common.{◌≡◌, ℕ, Bool, true, false, if◌then◌else◌, List, [], ◌∷◌, ◌++◌, Option, Some, None, length, refl, ap, ◌∙◌, arith}
use Rattle.std.specs.Prelude.{◌==◌, slice_get, option_map}
use Rattle.std.proofs.lemmas.Option.{slice_get-map}
use Rattle.std.proofs.lemmas.Bool.Decides.{nat_tests}
use Rattle.stp_text.specs.Tree.{Tree, Trees, Word, Node, NoMore, More}
use Rattle.stp_refusal.specs.declared.offence.Offence.{Offence}
use Rattle.stp_refusal.specs.declared.code.Code.TheVariants.{D17, D18, D20}
use Rattle.stp_text.specs.Items.{count}
use Rattle.stp_refusal.specs.Read.{Read, fine, bad, map_read, given}
use Rattle.stp_tables.specs.Names.{number_of}
use Rattle.stp_schema.specs.declared.lifted.Term.{Term}
use Rattle.stp_schema.specs.declared.lifted.Term.TheVariants.{Object}
use Rattle.stp_schema.specs.Rows.{Shape, Thing, thing_names, shape_names}
use Rattle.stp_schema.specs.Known.{Known}
use Rattle.stp_refusal.proofs.Saying.{none_first, none_rest}
use Rattle.stp_schema.specs.Formula.{PlainAtom}
use Rattle.stp_condition.specs.declared.atom.SymbolKind.{SymbolKind}
use Rattle.stp_condition.specs.Scope.{Var, kinds_of, with_value, variable_at, last_of}
use Rattle.stp_condition.specs.Terms.{fits, object_at, object_in, variable_or, find_term, found_term, term_read, terms_read}
use Rattle.stp_condition.specs.Atoms.{shapes_of, shape_at, atom_with, no_atom, applied_read, atom_read}
use Rattle.stp_condition.specs.TypedTerms.{kind_in, IsTermTyped, AreTermsTyped, IsAtomTyped}

-- ---- terms

-- what a term that was found stands for
abbrev HasKind : Known → List Var → Option (Term × ℕ) → Type 0
HasKind k scope None = Unit {0}
HasKind k scope (Some t) = kind_in k (kinds_of scope) t.0 ≡ Some t.1

variable_has : (k : Known) (scope : List Var) (number : ℕ) (v : Option Var) → slice_get scope number ≡ v → (object : Option (Term × ℕ)) → HasKind k scope object → HasKind k scope (variable_or (option_map (λ w. (number, w.kind)) v) object)
variable_has k scope number None e object h = h
variable_has k scope number (Some v) e object h = slice_get-map (λ w. w.kind) scope number ∙ ap (option_map (λ w. w.kind)) e

last_has : (k : Known) (scope : List Var) (last : Option ℕ) (object : Option (Term × ℕ)) → HasKind k scope object → HasKind k scope (variable_or (with_value (variable_at scope) last) object)
last_has k scope None object h = h
last_has k scope (Some number) object h = variable_has k scope number (slice_get scope number) refl object h

thing_has : (k : Known) (scope : List Var) (number : ℕ) (t : Option Thing) → slice_get k.objects number ≡ t → HasKind k scope (option_map (λ u. (Object (record { 0 = number }), u.kind)) t)
thing_has k scope number None e = tt
thing_has k scope number (Some t) e = ap (option_map (λ u. u.kind)) e

object_has : (k : Known) (scope : List Var) (number : Option ℕ) → HasKind k scope (with_value (object_at k.objects) number)
object_has k scope None = tt
object_has k scope (Some number) = thing_has k scope number (slice_get k.objects number) refl

found_has : (k : Known) (scope : List Var) (name : List ℕ) → HasKind k scope (find_term k.objects scope name)
found_has k scope name = last_has k scope (last_of name scope) (object_in k.objects name) (object_has k scope (number_of (thing_names k.objects) name))

fit_typed : (k : Known) (scope : List Var) (place : Option ℕ) (at : ℕ) (term : Term) (kind : ℕ) (b : Bool) → fits k.parents place kind ≡ b → kind_in k (kinds_of scope) term ≡ Some kind → (let r : Read Term = if b then fine term else bad at D20 term in r.offences) ≡ [] → IsTermTyped k (kinds_of scope) place (let r : Read Term = if b then fine term else bad at D20 term in r.value)
fit_typed k scope place at term kind true e h none = record { kind = kind; has_kind = h; is_fit = e }
fit_typed k scope place at term kind false e h none = cc

found_typed : (k : Known) (scope : List Var) (place : Option ℕ) (at : ℕ) (found : Option (Term × ℕ)) → HasKind k scope found → (found_term k.parents place at found).offences ≡ [] → IsTermTyped k (kinds_of scope) place (found_term k.parents place at found).value
found_typed k scope place at None h none = cc
found_typed k scope place at (Some t) h none = fit_typed k scope place at t.0 t.1 (fits k.parents place t.1) refl h none

pub term_typed : (k : Known) (scope : List Var) (place : Option ℕ) (tree : Tree) → (term_read k scope place tree).offences ≡ [] → IsTermTyped k (kinds_of scope) place (term_read k scope place tree).value
term_typed k scope place (Word at text) none = found_typed k scope place at (find_term k.objects scope text) (found_has k scope text) none
term_typed k scope place (Node at items) none = cc

-- ---- atoms

terms_typed : (k : Known) (scope : List Var) (places : List ℕ) (ts : Trees) → count ts ≡ length places → (terms_read k scope places ts).offences ≡ [] → AreTermsTyped k (kinds_of scope) places (terms_read k scope places ts).value
terms_typed k scope [] ts e none = tt
terms_typed k scope (p ∷ ps) NoMore e none = absurd (omega (arith, e))
terms_typed k scope (p ∷ ps) (More t ts) e none = (
  term_typed k scope (Some p) t (none_first _ (terms_read k scope ps ts).offences none),
  terms_typed k scope ps ts (let f : count ts ≡ length ps = omega (arith, e) in f) (none_rest (term_read k scope (Some p) t).offences _ none),
)

tested : (m n : ℕ) → (m == n) ≡ true → m ≡ n
tested m n e = grind (arith, nat_tests, e)

applied_typed : (kind : SymbolKind) (k : Known) (scope : List Var) (at : ℕ) (ts : Trees) (number : ℕ) (s : Shape) → slice_get (shapes_of kind k.predicates k.functions) number ≡ Some s → (b : Bool) → (count ts == length s.parameters) ≡ b
    → (let r : Read PlainAtom = if b then map_read (atom_with number) (terms_read k scope s.parameters ts) else bad at D18 no_atom in r.offences) ≡ []
    → IsAtomTyped kind k (kinds_of scope) (let r : Read PlainAtom = if b then map_read (atom_with number) (terms_read k scope s.parameters ts) else bad at D18 no_atom in r.value)
applied_typed kind k scope at ts number s e true same none = record { shape = s; is_declared = e; fit_terms = terms_typed k scope s.parameters ts (tested (count ts) (length s.parameters) same) none }
applied_typed kind k scope at ts number s e false same none = cc

shaped_typed : (kind : SymbolKind) (k : Known) (scope : List Var) (at : ℕ) (ts : Trees) (number : ℕ) (s : Option Shape) → slice_get (shapes_of kind k.predicates k.functions) number ≡ s
    → (given (bad at D17 no_atom) (applied_read k scope at ts) (option_map (λ t. (number, t)) s)).offences ≡ []
    → IsAtomTyped kind k (kinds_of scope) (given (bad at D17 no_atom) (applied_read k scope at ts) (option_map (λ t. (number, t)) s)).value
shaped_typed kind k scope at ts number None e none = cc
shaped_typed kind k scope at ts number (Some s) e none = applied_typed kind k scope at ts number s e (count ts == length s.parameters) refl none

numbered_typed : (kind : SymbolKind) (k : Known) (scope : List Var) (at : ℕ) (ts : Trees) (number : Option ℕ)
    → (given (bad at D17 no_atom) (applied_read k scope at ts) (with_value (shape_at (shapes_of kind k.predicates k.functions)) number)).offences ≡ []
    → IsAtomTyped kind k (kinds_of scope) (given (bad at D17 no_atom) (applied_read k scope at ts) (with_value (shape_at (shapes_of kind k.predicates k.functions)) number)).value
numbered_typed kind k scope at ts None none = cc
numbered_typed kind k scope at ts (Some number) none = shaped_typed kind k scope at ts number (slice_get (shapes_of kind k.predicates k.functions) number) refl none

pub atom_typed : (kind : SymbolKind) (k : Known) (scope : List Var) (at : ℕ) (name : List ℕ) (ts : Trees) → (atom_read kind k scope at name ts).offences ≡ [] → IsAtomTyped kind k (kinds_of scope) (atom_read kind k scope at name ts).value
atom_typed kind k scope at name ts none = numbered_typed kind k scope at ts (number_of (shape_names (shapes_of kind k.predicates k.functions)) name) none
