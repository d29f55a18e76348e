-- What is read without an offence is typed.
use Rattle.std.proofs.Common.{◌≡◌, ℕ, ◌<◌, Bool, true, false, List, [], ◌∷◌, ◌++◌, Option, Some, None, length, refl}
use Rattle.std.proofs.lemmas.List.{map-append}
use Rattle.std.proofs.lemmas.List.Quantifiers.{position-Some}
use Rattle.std.specs.Prelude.{bytes_eq}
use Rattle.stp_text.specs.Tree.{Tree, Trees, Word, Node, NoMore, More}
use Rattle.stp_text.specs.Items.{has_list, list_of, one_of, two_of}
use Rattle.stp_tables.specs.Names.{number_of}
use Rattle.stp_domain_parts.specs.Entries.{Plain}
use Rattle.stp_schema.specs.Known.{Known}
use Rattle.stp_schema.specs.Formula.{formulas_of}
use Rattle.stp_condition.specs.declared.key.Key.{Key}
use Rattle.stp_condition.specs.declared.key.Key.TheVariants as keys
use Rattle.stp_condition.specs.declared.atom.SymbolKind.TheVariants.{Predicate}
use Rattle.stp_condition.specs.Keys.{key_of}
use Rattle.stp_condition.specs.Scope.{Var, kinds_of}
use Rattle.stp_condition.specs.Terms.{term_read}
use Rattle.stp_refusal.proofs.Saying.{none_first, none_rest}
use Rattle.stp_condition.proofs.TypedTerms.{term_typed, atom_typed}
use Rattle.stp_condition.specs.Variables.{named_kind, kind_read, typed_read, names_read, variables_read}
use Rattle.stp_condition.specs.Conditions.{Part, Item, same_read, equality_read, all_read, not_read, imply_read, body_read, quantified_read, by_key, by_head, condition_read, items_read}
use Rattle.stp_condition.specs.TypedConditions.{AreTypes, IsTyped, AreTyped}

-- ---- the types of a quantifier's variables

named_kind_typed : (k : Known) → 0 < length k.types → (at : ℕ) (name : List ℕ) (number : Option ℕ) → number_of k.types name ≡ number → (named_kind at number).value < length k.types
named_kind_typed k some at name None e = some
named_kind_typed k some at name (Some n) e = (position-Some (bytes_eq name) k.types n [] e).0

kind_typed : (k : Known) → 0 < length k.types → (kind : Option Tree) → (kind_read k.types kind).value < length k.types
kind_typed k some None = some
kind_typed k some (Some (Word at text)) = named_kind_typed k some at text (number_of k.types text) refl
kind_typed k some (Some (Node at items)) = some

kinds_typed : (k : Known) → 0 < length k.types → (es : List Plain) → AreTypes k (kinds_of (typed_read k.types es).value)
kinds_typed k some [] = tt
kinds_typed k some (e ∷ es) = (kind_typed k some e.kind, kinds_typed k some es)

variables_typed : (k : Known) → 0 < length k.types → (tree : Tree) → AreTypes k (kinds_of (variables_read k.types tree).value)
variables_typed k some (Word at text) = tt
variables_typed k some (Node at items) = kinds_typed k some (names_read items).value

-- ---- conditions by their kinds

-- what an item says without an offence is typed
abbrev SaysTyped : Known → Part → Type 0
SaysTyped k says = (scope : List Var) → (says scope).offences ≡ [] → IsTyped k (kinds_of scope) (says scope).value

abbrev AllSayTyped : Known → List Item → Type 0
AllSayTyped k [] = Unit {0}
AllSayTyped k (i ∷ is) = SaysTyped k i.says × AllSayTyped k is

module _ (k : Known) (some : 0 < length k.types) where
  all_typed : (is : List Item) (scope : List Var) → AllSayTyped k is → (all_read is scope).offences ≡ [] → AreTyped k (kinds_of scope) (formulas_of (all_read is scope).value)
  all_typed [] scope h none = tt
  all_typed (i ∷ is) scope h none = (
    h.0 scope (none_first (i.says scope).offences (all_read is scope).offences none),
    all_typed is scope h.1 (none_rest (i.says scope).offences (all_read is scope).offences none),
  )

  one_typed : (at : ℕ) (is : List Item) (scope : List Var) → AllSayTyped k is → (not_read at (one_of is) scope).offences ≡ [] → IsTyped k (kinds_of scope) (not_read at (one_of is) scope).value
  one_typed at [] scope h none = tt
  one_typed at (i ∷ []) scope h none = h.0 scope none
  one_typed at (i ∷ j ∷ is) scope h none = tt

  implied_typed : (at : ℕ) (is : List Item) (scope : List Var) → AllSayTyped k is → (imply_read at (two_of is) scope).offences ≡ [] → IsTyped k (kinds_of scope) (imply_read at (two_of is) scope).value
  implied_typed at [] scope h none = tt
  implied_typed at (i ∷ []) scope h none = tt
  implied_typed at (i ∷ j ∷ []) scope h none =
      (h.0 scope (none_first (i.says scope).offences (j.says scope).offences none), (h.1.0 scope (none_rest (i.says scope).offences (j.says scope).offences none), tt))
  implied_typed at (i ∷ j ∷ l ∷ is) scope h none = tt

  body_typed : (every : Bool) (says : Part) (scope vs : List Var) → AreTypes k (kinds_of vs) → SaysTyped k says → (body_read every says scope vs).offences ≡ [] → IsTyped k (kinds_of scope) (body_read every says scope vs).value
  body_typed true says scope vs types h none = (types, (let inner : IsTyped k (kinds_of (scope ++ vs)) (says (scope ++ vs)).value = h (scope ++ vs) none in rw (map-append (λ v. v.kind) scope vs) at inner))
  body_typed false says scope vs types h none = (types, (let inner : IsTyped k (kinds_of (scope ++ vs)) (says (scope ++ vs)).value = h (scope ++ vs) none in rw (map-append (λ v. v.kind) scope vs) at inner))

  quantified_typed : (every : Bool) (at : ℕ) (is : List Item) (scope : List Var) → AllSayTyped k is → (quantified_read every k at (two_of is) scope).offences ≡ [] → IsTyped k (kinds_of scope) (quantified_read every k at (two_of is) scope).value
  quantified_typed every at [] scope h none = tt
  quantified_typed every at (i ∷ []) scope h none = tt
  quantified_typed every at (i ∷ j ∷ []) scope h none =
      body_typed every j.says scope (variables_read k.types i.tree).value (variables_typed k some i.tree) h.1.0
      (none_rest (variables_read k.types i.tree).offences (body_read every j.says scope (variables_read k.types i.tree).value).offences none)
  quantified_typed every at (i ∷ j ∷ l ∷ is) scope h none = tt

  same_typed : (at : ℕ) (scope : List Var) (two : Option (Tree × Tree)) → (same_read k scope at two).offences ≡ [] → IsTyped k (kinds_of scope) (same_read k scope at two).value
  same_typed at scope None none = tt
  same_typed at scope (Some p) none = (
    term_typed k scope None p.0 (none_first (term_read k scope None p.0).offences (term_read k scope None p.1).offences none),
    term_typed k scope None p.1 (none_rest (term_read k scope None p.0).offences (term_read k scope None p.1).offences none),
  )

  equality_typed : (at : ℕ) (scope : List Var) (ts : Trees) (b : Bool) → has_list ts ≡ b → (equality_read k scope at ts).offences ≡ [] → IsTyped k (kinds_of scope) (equality_read k scope at ts).value
  equality_typed at scope ts true e none = rw e tt
  equality_typed at scope ts false e none = rw e (same_typed at scope (two_of (list_of ts)) (rw e at none))

  key_typed : (key : Key) (at : ℕ) (text : List ℕ) (ts : Trees) (is : List Item) (scope : List Var) → AllSayTyped k is → (by_key key k at text ts is scope).offences ≡ [] → IsTyped k (kinds_of scope) (by_key key k at text ts is scope).value
  key_typed keys.Equal at text ts is scope h none = equality_typed at scope ts (has_list ts) refl none
  key_typed keys.Not at text ts is scope h none = one_typed at is scope h none
  key_typed keys.And at text ts is scope h none = all_typed is scope h none
  key_typed keys.Or at text ts is scope h none = all_typed is scope h none
  key_typed keys.Imply at text ts is scope h none = implied_typed at is scope h none
  key_typed keys.Forall at text ts is scope h none = quantified_typed true at is scope h none
  key_typed keys.Exists at text ts is scope h none = quantified_typed false at is scope h none
  key_typed keys.Comparison at text ts is scope h none = tt
  key_typed keys.Preference at text ts is scope h none = tt
  key_typed keys.When at text ts is scope h none = tt
  key_typed keys.Change at text ts is scope h none = tt
  key_typed (keys.Arithmetic operator) at text ts is scope h none = tt
  key_typed keys.Symbol at text ts is scope h none = atom_typed Predicate k scope at text ts none

  head_typed : (at : ℕ) (ts : Trees) (is : List Item) (scope : List Var) → AllSayTyped k is → (by_head k at ts is scope).offences ≡ [] → IsTyped k (kinds_of scope) (by_head k at ts is scope).value
  head_typed at NoMore is scope h none = tt
  head_typed at (More (Node place items) ts) is scope h none = tt
  head_typed at (More (Word place text) ts) [] scope h none = tt
  head_typed at (More (Word place text) ts) (i ∷ is) scope h none = key_typed (key_of text) at text ts is scope h.1 none

mutual
  unfolding condition_read items_read

  pub condition_typed : (k : Known) → 0 < length k.types → (tree : Tree) → SaysTyped k (condition_read k tree)
  condition_typed k some (Word at text) = λ scope none. tt
  condition_typed k some (Node at items) = λ scope none. head_typed k some at items (items_read k items) scope (items_typed k some items) none

  items_typed : (k : Known) → 0 < length k.types → (ts : Trees) → AllSayTyped k (items_read k ts)
  items_typed k some NoMore = tt
  items_typed k some (More t ts) = (condition_typed k some t, items_typed k some ts)
