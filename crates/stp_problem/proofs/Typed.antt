-- What is read without an offence fits what is declared.
use Rattle.std.proofs.Common.{◌≡◌, ℕ, Bool, true, false, if◌then◌else◌, List, [], ◌∷◌, ◌++◌, Option, Some, None, length, refl, ap, sym, ◌∙◌, subst, arith}
use Rattle.std.specs.Prelude.{◌==◌, slice_get, option_map}
use Rattle.std.proofs.lemmas.Bool.Decides.{nat_tests}
use Rattle.stp_text.specs.Tree.{Tree, Trees, Word, Node, NoMore, More}
use Rattle.stp_text.specs.Items.{place}
use Rattle.stp_refusal.specs.declared.code.Code.TheVariants.{P09, P10}
use Rattle.stp_text.specs.Items.{count}
use Rattle.stp_refusal.specs.Read.{bad, given, offence_at, unless}
use Rattle.stp_tables.specs.Names.{number_of}
use Rattle.stp_base.specs.Options.{◌>>=◌}
use Rattle.stp_types.specs.Forest.{is_below}
use Rattle.stp_schema.specs.Rows.{Shape, Thing, shape_names, thing_names}
use Rattle.stp_schema.specs.Known.{Known}
use Rattle.stp_schema.specs.Views.{PlainFact}
use Rattle.stp_frac.specs.Fractions.{Fraction}
use Rattle.stp_condition.specs.Scope.{with_value}
use Rattle.stp_condition.specs.declared.atom.SymbolKind.{SymbolKind}
use Rattle.stp_condition.specs.declared.atom.SymbolKind.TheVariants.{Predicate, Function}
use Rattle.stp_condition.specs.Atoms.{shapes_of, shape_at}
use Rattle.stp_refusal.proofs.Saying.{none_first, none_rest}
use Rattle.stp_tables.specs.Atoms.{Atom}
use Rattle.stp_problem.specs.Calls.{Call, object_at, object_in, found_wrong, arg_wrong, args_wrong, object_of, objects_of, applied_wrong, atom_at, applied_read, call_read}
use Rattle.stp_problem.specs.Items.{Form, Holds, Denied, Value, Timed, Malformed, form_of}
use Rattle.stp_problem.specs.Facts.{State, with_fact, fact_with, value_in, given_with, value_once, value_read, form_read, item_read, items_read}
use Rattle.stp_problem.specs.Typed.{IsObjectTyped, AreObjectsTyped, IsAtomTyped, AreFactsTyped, AreValuesTyped}
use Rattle.stp_schema.specs.Views.{PlainGiven}

-- ---- objects

some_one : {A : Type 0} {x y : A} → Some x ≡ Some y → x ≡ y
some_one e = cc

unless_none : (b : Bool) (at : ℕ) → unless b (offence_at at P10) ≡ [] → b ≡ true
unless_none true at e = refl
unless_none false at e = cc

module _ (k : Known) where
  -- the number and the type of an object that is there
  abbrev IsFound : Option (ℕ × ℕ) → Type 0
  IsFound None = Unit {0}
  IsFound (Some o) = (t : Thing) × (slice_get k.objects o.0 ≡ Some t) × (t.kind ≡ o.1)

  thing_found : (number : ℕ) (t : Option Thing) → slice_get k.objects number ≡ t → IsFound (option_map (λ u. (number, u.kind)) t)
  thing_found number None e = tt
  thing_found number (Some t) e = (t, e, refl)

  numbered_found : (number : Option ℕ) → IsFound (with_value (object_at k.objects) number)
  numbered_found None = tt
  numbered_found (Some number) = thing_found number (slice_get k.objects number) refl

  found_typed : (at kind word_at object : ℕ) (found : Option (ℕ × ℕ)) → IsFound found → option_map (λ o. o.0) found ≡ Some object → found_wrong k.parents at kind word_at found ≡ [] → IsObjectTyped k kind object
  found_typed at kind word_at object None h e none = cc
  found_typed at kind word_at object (Some o) h e none = record {
    thing = h.0;
    is_there = ap (slice_get k.objects) (sym (some_one e)) ∙ h.1;
    is_fit = ap (λ n. is_below k.parents n kind) h.2 ∙ unless_none (is_below k.parents o.1 kind) at none;
  }

  object_typed : (at kind object : ℕ) (t : Tree) → object_of k.objects t ≡ Some object → arg_wrong k at kind t ≡ [] → IsObjectTyped k kind object
  object_typed at kind object (Word word_at text) e none = found_typed at kind word_at object (object_in k.objects text) (numbered_found (number_of (thing_names k.objects) text)) e none
  object_typed at kind object (Node list_at items) e none = cc

  -- ---- arguments

  same_head : (x y : ℕ) (xs ys : List ℕ) → Some (x ∷ xs) ≡ Some (y ∷ ys) → x ≡ y
  same_head x y xs ys e = cc

  same_tail : (x y : ℕ) (xs ys : List ℕ) → Some (x ∷ xs) ≡ Some (y ∷ ys) → xs ≡ ys
  same_tail x y xs ys e = cc

  args_next : (kind : ℕ) (kinds : List ℕ) (one : Option ℕ) (rest : Option (List ℕ)) (objects : List ℕ) → (one >>= (λ x. rest >>= (λ xs. Some (x ∷ xs)))) ≡ Some objects → ((x : ℕ) → one ≡ Some x → IsObjectTyped k kind x) → ((xs : List ℕ) → rest ≡ Some xs → AreObjectsTyped k kinds xs) → AreObjectsTyped k (kind ∷ kinds) objects
  args_next kind kinds None rest objects e f g = cc
  args_next kind kinds (Some x) None objects e f g = cc
  args_next kind kinds (Some x) (Some xs) [] e f g = cc
  args_next kind kinds (Some x) (Some xs) (y ∷ ys) e f g = (subst (λ v. IsObjectTyped k kind v) (same_head x y xs ys e) (f x refl), subst (λ vs. AreObjectsTyped k kinds vs) (same_tail x y xs ys e) (g xs refl))

  args_end : (objects : List ℕ) → Some [] ≡ Some objects → AreObjectsTyped k [] objects
  args_end [] e = tt
  args_end (x ∷ xs) e = cc

  args_typed : (at : ℕ) (kinds : List ℕ) (ts : Trees) (objects : List ℕ) → count ts ≡ length kinds → objects_of k.objects ts ≡ Some objects → args_wrong k at kinds ts ≡ [] → AreObjectsTyped k kinds objects
  args_typed at [] NoMore objects c e none = args_end objects e
  args_typed at [] (More t ts) objects c e none = absurd (omega (arith, c))
  args_typed at (p ∷ ps) NoMore objects c e none = absurd (omega (arith, c))
  args_typed at (p ∷ ps) (More t ts) objects c e none =
      args_next p ps (object_of k.objects t) (objects_of k.objects ts) objects e
      (λ x h. object_typed at p x t h (none_first (arg_wrong k at p t) (args_wrong k at ps ts) none))
      (λ xs h. args_typed at ps ts xs (let f : count ts ≡ length ps = omega (arith, c) in f) h (none_rest (arg_wrong k at p t) (args_wrong k at ps ts) none))

  -- ---- atoms

  tested : (m n : ℕ) → (m == n) ≡ true → m ≡ n
  tested m n e = grind (arith, nat_tests, e)

  counted_typed : (call : Call) (shape : Shape) (objects : List ℕ) (b : Bool) → (count call.args == length shape.parameters) ≡ b → objects_of k.objects call.args ≡ Some objects → (if b then args_wrong k call.at shape.parameters call.args else offence_at call.at P10) ≡ [] → AreObjectsTyped k shape.parameters objects
  counted_typed call shape objects true c e none = args_typed call.at shape.parameters call.args objects (tested (count call.args) (length shape.parameters) c) e none
  counted_typed call shape objects false c e none = cc

  applied_typed : (shapes : List Shape) (call : Call) (number : ℕ) (shape : Shape) (atom : Atom) (objects : Option (List ℕ)) → slice_get shapes number ≡ Some shape → objects_of k.objects call.args ≡ objects → option_map (atom_at number) objects ≡ Some atom → applied_wrong k call shape ≡ [] → IsAtomTyped k shapes atom.predicate atom.args
  applied_typed shapes call number shape atom None d o e none = cc
  applied_typed shapes call number shape atom (Some objects) d o e none =
      subst (λ (a : Atom). IsAtomTyped k shapes a.predicate a.args) (some_one e)
      (record { shape = shape; is_declared = d; fit_objects = counted_typed call shape objects (count call.args == length shape.parameters) refl o none })

  shaped_typed : (shapes : List Shape) (call : Call) (number : ℕ) (shape : Option Shape) (atom : Atom) → slice_get shapes number ≡ shape
      → (given (bad call.at P09 None) (applied_read k call) (option_map (λ s. (number, s)) shape)).value ≡ Some atom
      → (given (bad call.at P09 None) (applied_read k call) (option_map (λ s. (number, s)) shape)).offences ≡ []
      → IsAtomTyped k shapes atom.predicate atom.args
  shaped_typed shapes call number None atom d e none = cc
  shaped_typed shapes call number (Some shape) atom d e none = applied_typed shapes call number shape atom (objects_of k.objects call.args) d refl e none

  numbered_typed : (shapes : List Shape) (call : Call) (number : Option ℕ) (atom : Atom)
      → (given (bad call.at P09 None) (applied_read k call) (with_value (shape_at shapes) number)).value ≡ Some atom
      → (given (bad call.at P09 None) (applied_read k call) (with_value (shape_at shapes) number)).offences ≡ []
      → IsAtomTyped k shapes atom.predicate atom.args
  numbered_typed shapes call None atom e none = cc
  numbered_typed shapes call (Some number) atom e none = shaped_typed shapes call number (slice_get shapes number) atom refl e none

  pub call_typed : (kind : SymbolKind) (call : Call) (atom : Atom) → (call_read kind k call).value ≡ Some atom → (call_read kind k call).offences ≡ [] → IsAtomTyped k (shapes_of kind k.predicates k.functions) atom.predicate atom.args
  call_typed kind call atom e none = numbered_typed (shapes_of kind k.predicates k.functions) call (number_of (shape_names (shapes_of kind k.predicates k.functions)) call.name) atom e none

  -- ---- items

  pub record IsStateTyped (state : State) : Type 0 where
    pub facts : AreFactsTyped k state.initial
    pub values : AreValuesTyped k state.values

  more_facts : (fs : List PlainFact) (f : PlainFact) → AreFactsTyped k fs → IsAtomTyped k k.predicates f.predicate f.args → AreFactsTyped k (fs ++ f ∷ [])
  more_facts [] f h t = (t, tt)
  more_facts (g ∷ fs) f h t = (h.0, more_facts fs f h.1 t)

  more_values : (gs : List PlainGiven) (g : PlainGiven) → AreValuesTyped k gs → IsAtomTyped k k.functions g.function g.args → AreValuesTyped k (gs ++ g ∷ [])
  more_values [] g h t = (t, tt)
  more_values (f ∷ gs) g h t = (h.0, more_values gs g h.1 t)

  fact_typed : (state : State) (atom : Option Atom) → IsStateTyped state → ((a : Atom) → atom ≡ Some a → IsAtomTyped k k.predicates a.predicate a.args) → IsStateTyped (with_fact state atom)
  fact_typed state None h f = h
  fact_typed state (Some a) h f = record { facts = more_facts state.initial (fact_with a) h.facts (f a refl); values = h.values }

  once_typed : (at : ℕ) (state : State) (value : Fraction) (atom : Atom) (found : Option Fraction) → IsStateTyped state → IsAtomTyped k k.functions atom.predicate atom.args → IsStateTyped (value_once at state value atom found).value
  once_typed at state value atom None h t = record { facts = h.facts; values = more_values state.values (given_with atom value) h.values t }
  once_typed at state value atom (Some found) h t = h

  value_typed : (at : ℕ) (value : Fraction) (state : State) (atom : Option Atom) → IsStateTyped state → ((a : Atom) → atom ≡ Some a → IsAtomTyped k k.functions a.predicate a.args) → IsStateTyped (value_read at value state atom).value
  value_typed at value state None h f = h
  value_typed at value state (Some a) h f = once_typed at state value a (value_in a state.values) h (f a refl)

  form_typed : (at : ℕ) (state : State) (form : Form) → IsStateTyped state → (form_read k at state form).offences ≡ [] → IsStateTyped (form_read k at state form).value
  form_typed at state (Holds call) h none = fact_typed state (call_read Predicate k call).value h (λ a e. call_typed Predicate call a e none)
  form_typed at state (Denied call) h none = h
  form_typed at state (Value call value) h none = value_typed at value state (call_read Function k call).value h (λ a e. call_typed Function call a e (none_first (call_read Function k call).offences (value_read at value state (call_read Function k call).value).offences none))
  form_typed at state Timed h none = h
  form_typed at state Malformed h none = cc

  pub items_typed : (state : State) (ts : Trees) → IsStateTyped state → (items_read k state ts).offences ≡ [] → IsStateTyped (items_read k state ts).value
  items_typed state NoMore h none = h
  items_typed state (More t ts) h none =
      items_typed (item_read k state t).value ts
      (form_typed (place t) state (form_of t) h (none_first (item_read k state t).offences (items_read k (item_read k state t).value ts).offences none))
      (none_rest (item_read k state t).offences (items_read k (item_read k state t).value ts).offences none)
