-- What is true at first, and the values of functions.
use Rattle.std.specs.Prelude.{ℕ, if◌then◌else◌, List, [], ◌∷◌, ◌++◌, Option, Some, None}
use Rattle.std.specs.Ordering.{is_eq}
use Rattle.stp_text.specs.Tree.{Tree, Trees, NoMore, More}
use Rattle.stp_text.specs.Items.{place}
use Rattle.stp_refusal.specs.declared.code.Code.TheVariants.{P08, P11}
use Rattle.stp_refusal.specs.Read.{Read, fine, bad, map_read, unless, offence_at}
use Rattle.stp_domain_parts.specs.Then.{then_read}
use Rattle.stp_frac.specs.Fractions.{Fraction, order_of}
use Rattle.stp_schema.specs.Known.{Known}
use Rattle.stp_schema.specs.Views.{PlainFact, PlainGiven}
use Rattle.stp_condition.specs.declared.atom.SymbolKind.TheVariants.{Predicate, Function}
use Rattle.stp_tables.specs.Atoms.{Atom, is_atom}
use Rattle.stp_problem.specs.Calls.{call_read}
use Rattle.stp_problem.specs.Items.{Form, Holds, Denied, Value, Timed, Malformed, form_of}

-- the facts in the order of the text, and each function's value once
pub record State : Type 0 where
  pub initial : List PlainFact
  pub values : List PlainGiven

abbrev pub nothing : State
nothing = record { initial = []; values = [] }

abbrev pub fact_with : Atom → PlainFact
fact_with atom = record { predicate = atom.predicate; args = atom.args }

abbrev pub with_fact : State → Option Atom → State
with_fact state None = state
with_fact state (Some atom) = record { initial = state.initial ++ fact_with atom ∷ []; values = state.values }

-- a function with the objects at which it has a value
abbrev pub place_of : PlainGiven → Atom
place_of g = record { predicate = g.function; args = g.args }

-- the value that a function has at some objects, if it has one
abbrev pub value_in : Atom → List PlainGiven → Option Fraction
value_in atom [] = None
value_in atom (g ∷ gs) = if is_atom atom (place_of g) then Some g.value else value_in atom gs

abbrev pub given_with : Atom → Fraction → PlainGiven
given_with atom value = record { function = atom.predicate; args = atom.args; value = value }

abbrev pub with_given : State → Atom → Fraction → State
with_given state atom value = record { initial = state.initial; values = state.values ++ given_with atom value ∷ [] }

-- a value where there may be one already: the same again adds nothing, and another is an offence at the item
abbrev pub value_once : ℕ → State → Fraction → Atom → Option Fraction → Read State
value_once at state value atom None = fine (with_given state atom value)
value_once at state value atom (Some found) = record { offences = unless (is_eq (order_of found value)) (offence_at at P11); value = state }

abbrev pub value_read : ℕ → Fraction → State → Option Atom → Read State
value_read at value state None = fine state
value_read at value state (Some atom) = value_once at state value atom (value_in atom state.values)

-- what an item at a place says
abbrev pub form_read : Known → ℕ → State → Form → Read State
form_read k at state (Holds call) = map_read (with_fact state) (call_read Predicate k call)
form_read k at state (Denied call) = map_read (λ atom. state) (call_read Predicate k call)
form_read k at state (Value call value) = then_read (call_read Function k call) (value_read at value state)
form_read k at state Timed = fine state
form_read k at state Malformed = bad at P08 state

abbrev pub item_read : Known → State → Tree → Read State
item_read k state tree = form_read k (place tree) state (form_of tree)

abbrev pub items_read : Known → State → Trees → Read State
items_read k state NoMore = fine state
items_read k state (More t ts) = then_read (item_read k state t) (λ next. items_read k next ts)

-- what the items of `:init` say
abbrev pub facts_read : Known → Trees → Read State
facts_read k items = items_read k nothing items
