-- A function has at most one value at the same objects.
use Rattle.std.proofs.Common.{◌≡◌, ℕ, Bool, true, false, if◌then◌else◌, List, [], ◌∷◌, ◌++◌, Option, Some, None, refl, arith}
use Rattle.std.proofs.lemmas.Slice.Eq.{bytes_eq-Decides}
use Rattle.std.proofs.lemmas.Bool.Decides.{nat_tests}
use Rattle.stp_text.specs.Tree.{Trees, NoMore, More}
use Rattle.stp_text.specs.Items.{place}
use Rattle.stp_frac.specs.Fractions.{Fraction}
use Rattle.stp_schema.specs.Known.{Known}
use Rattle.stp_schema.specs.Views.{PlainGiven}
use Rattle.stp_condition.specs.declared.atom.SymbolKind.TheVariants.{Predicate, Function}
use Rattle.stp_tables.specs.Atoms.{Atom, is_atom}
use Rattle.stp_problem.specs.Calls.{call_read}
use Rattle.stp_problem.specs.Items.{Form, Holds, Denied, Value, Timed, Malformed, form_of}
use Rattle.stp_problem.specs.Facts.{State, with_fact, place_of, value_in, given_with, value_once, value_read, form_read, item_read, items_read}
use Rattle.stp_problem.specs.Typed.{AreFound}

same_atom : (atom : Atom) → is_atom atom atom ≡ true
same_atom atom = grind (arith, nat_tests, bytes_eq-Decides)

-- a value that is found is still found where one more stands behind
kept_next : (b : Bool) (one : Fraction) (rest more : Option Fraction) (value : Fraction) → (rest ≡ Some value → more ≡ Some value) → (if b then Some one else rest) ≡ Some value → (if b then Some one else more) ≡ Some value
kept_next true one rest more value f e = e
kept_next false one rest more value f e = f e

kept_found : (atom : Atom) (gs : List PlainGiven) (g : PlainGiven) (value : Fraction) → value_in atom gs ≡ Some value → value_in atom (gs ++ g ∷ []) ≡ Some value
kept_found atom [] g value e = cc
kept_found atom (h ∷ gs) g value e = kept_next (is_atom atom (place_of h)) h.value (value_in atom gs) (value_in atom (gs ++ g ∷ [])) value (kept_found atom gs g value) e

-- one that was missing is found where it stands behind
new_next : (b : Bool) (one : Fraction) (rest more : Option Fraction) (value : Fraction) → (rest ≡ None → more ≡ Some value) → (if b then Some one else rest) ≡ None → (if b then Some one else more) ≡ Some value
new_next true one rest more value f e = cc
new_next false one rest more value f e = f e

last_one : (b : Bool) (value : Fraction) → b ≡ true → (if b then Some value else None) ≡ Some value
last_one true value e = refl
last_one false value e = cc

new_found : (g : PlainGiven) (gs : List PlainGiven) → value_in (place_of g) gs ≡ None → value_in (place_of g) (gs ++ g ∷ []) ≡ Some g.value
new_found g [] e = last_one (is_atom (place_of g) (place_of g)) g.value (same_atom (place_of g))
new_found g (h ∷ gs) e = new_next (is_atom (place_of g) (place_of h)) h.value (value_in (place_of g) gs) (value_in (place_of g) (gs ++ g ∷ [])) g.value (new_found g gs) e

all_kept : (all gs : List PlainGiven) (g : PlainGiven) → AreFound all gs → AreFound (all ++ g ∷ []) gs
all_kept all [] g h = tt
all_kept all (f ∷ gs) g h = (kept_found (place_of f) all g f.value h.0, all_kept all gs g h.1)

one_more : (all gs : List PlainGiven) (g : PlainGiven) → AreFound all gs → value_in (place_of g) all ≡ Some g.value → AreFound all (gs ++ g ∷ [])
one_more all [] g h e = (e, tt)
one_more all (f ∷ gs) g h e = (h.0, one_more all gs g h.1 e)

abbrev IsOnce : State → Type 0
IsOnce state = AreFound state.values state.values

fact_once : (state : State) (atom : Option Atom) → IsOnce state → IsOnce (with_fact state atom)
fact_once state None h = h
fact_once state (Some a) h = h

value_stays_once : (at : ℕ) (state : State) (value : Fraction) (atom : Atom) (found : Option Fraction) → value_in atom state.values ≡ found → IsOnce state → IsOnce (value_once at state value atom found).value
value_stays_once at state value atom None e h = one_more (state.values ++ given_with atom value ∷ []) state.values (given_with atom value) (all_kept state.values state.values (given_with atom value) h) (new_found (given_with atom value) state.values e)
value_stays_once at state value atom (Some found) e h = h

value_is_once : (at : ℕ) (value : Fraction) (state : State) (atom : Option Atom) → IsOnce state → IsOnce (value_read at value state atom).value
value_is_once at value state None h = h
value_is_once at value state (Some a) h = value_stays_once at state value a (value_in a state.values) refl h

form_once : (k : Known) (at : ℕ) (state : State) (form : Form) → IsOnce state → IsOnce (form_read k at state form).value
form_once k at state (Holds call) h = fact_once state (call_read Predicate k call).value h
form_once k at state (Denied call) h = h
form_once k at state (Value call value) h = value_is_once at value state (call_read Function k call).value h
form_once k at state Timed h = h
form_once k at state Malformed h = h

pub items_once : (k : Known) (state : State) (ts : Trees) → IsOnce state → IsOnce (items_read k state ts).value
items_once k state NoMore h = h
items_once k state (More t ts) h = items_once k (item_read k state t).value ts (form_once k (place t) state (form_of t) h)
