-- The forms of the items of `:init`.
use Rattle.std.specs.Prelude.{ℕ, List, Option, Some}
use Rattle.stp_text.specs.Tree.{Tree, Trees}
use Rattle.stp_refusal.specs.Read.{given}
use Rattle.stp_frac.specs.Fractions.{Fraction}
use Rattle.stp_base.specs.Options.{◌>>=◌}
use Rattle.stp_text.specs.Items.{first_of, only, keyed}
use Rattle.stp_condition.specs.declared.key.Key.{Key}
use Rattle.stp_condition.specs.declared.key.Key.TheVariants as keys
use Rattle.stp_condition.specs.Keys.{key_of}
use Rattle.stp_problem.specs.Calls.{Call, call_of}
use Rattle.stp_problem.specs.Windows.{number_in}
use Rattle.stp_problem.specs.Written.{Telling, Other, Wrong, Event, denied_part, list_written}

-- an atom that is true, one that is not, a function's value, an event of the environment, or none of these
pub data Form : Type 0 where
  Holds : Call → Form
  Denied : Call → Form
  Value : Call → Fraction → Form
  Timed : Form
  Malformed : Form

-- the atom and the number in `(= ATOM NUMBER)`, behind its first word
abbrev pub value_parts : Trees → Option (Call × Fraction)
value_parts items = do
  first ← first_of items
  last ← only first.1
  call ← call_of first.0
  number ← number_in last
  Some (call, number)

abbrev pub value_form : Trees → Form
value_form items = given Malformed (λ v. Value v.0 v.1) (value_parts items)

abbrev pub denied_form : Trees → Form
denied_form items = given Malformed Denied (denied_part items)

abbrev pub atom_form : Tree → Form
atom_form tree = given Malformed Holds (call_of tree)

abbrev pub unless_event : Form → Telling → Form
unless_event form Other = form
unless_event form (Wrong code) = Timed
unless_event form (Event low high literals) = Timed

-- a list that begins with a word that may begin an atom
abbrev pub symbol_form : List ℕ → Trees → Tree → Form
symbol_form name items tree = unless_event (atom_form tree) (list_written name items)

abbrev pub key_form : Key → List ℕ → Trees → Tree → Form
key_form keys.Equal name items tree = value_form items
key_form keys.Not name items tree = denied_form items
key_form keys.Symbol name items tree = symbol_form name items tree
key_form key name items tree = Malformed

abbrev pub list_form : Tree → List ℕ × Trees → Form
list_form tree list = key_form (key_of list.0) list.0 list.1 tree

-- the form of an item
abbrev pub form_of : Tree → Form
form_of tree = given Malformed (list_form tree) (keyed tree)
