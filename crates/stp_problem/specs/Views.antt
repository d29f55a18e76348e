-- What the structs of facts stand for.
use Rattle.std.specs.Prelude.{ℕ, List, map}
use Rattle.stp_text.specs.Tree.{views}
use Rattle.stp_frac.specs.Fractions.{Fraction, value_of}
use Rattle.stp_schema.specs.declared.problem.Fact.{Fact}
use Rattle.stp_schema.specs.declared.problem.Given.{Given}
use Rattle.stp_schema.specs.declared.rows.ObjectRow.{ObjectRow}
use Rattle.stp_schema.specs.Views.{fact_of, given_of}
use Rattle.stp_tables.specs.Atoms.{Atom, atom_with}
use Rattle.stp_problem.specs.declared.call.Call.{Call as WrittenCall}
use Rattle.stp_problem.specs.declared.window.Window.{Window}
use Rattle.stp_problem.specs.declared.written.WrittenLiteral.{WrittenLiteral as LiteralWritten}
use Rattle.stp_problem.specs.declared.written.Telling.{Telling as EventTelling}
use Rattle.stp_problem.specs.declared.written.Telling.TheVariants as events
use Rattle.stp_problem.specs.declared.item.Item.{Item}
use Rattle.stp_problem.specs.declared.item.Item.TheVariants as items
use Rattle.stp_problem.specs.declared.facts.Facts.{Facts}
use Rattle.stp_problem.specs.Calls.{Call, call_with}
use Rattle.stp_problem.specs.Written.{WrittenLiteral, written_literal, Telling, Other, Wrong, Event}
use Rattle.stp_problem.specs.Items.{Form, Holds, Denied, Value, Timed, Malformed}
use Rattle.stp_problem.specs.Facts.{State}

abbrev pub call_view : WrittenCall → Call
call_view c = call_with c.at c.name.now (views c.args.now)

abbrev pub literal_view : LiteralWritten → WrittenLiteral
literal_view l = written_literal l.adds (call_view l.call)

abbrev pub window_view : Window → Fraction × Fraction
window_view w = (value_of w.low, value_of w.high)

abbrev pub written_view : EventTelling → Telling
written_view events.Other = Other
written_view (events.Wrong code) = Wrong code
written_view (events.Event window literals) = Event (value_of window.low) (value_of window.high) (views literals.now)

abbrev pub form_view : Item → Form
form_view (items.Holds call) = Holds (call_view call)
form_view (items.Denied call) = Denied (call_view call)
form_view (items.Value call value) = Value (call_view call) (value_of value)
form_view items.Timed = Timed
form_view items.Malformed = Malformed

-- the atom of a fact
abbrev pub atom_of_fact : Fact → Atom
atom_of_fact f = atom_with f.predicate f.args.now

abbrev pub state_of : List Fact → List Given → State
state_of initial values = record { initial = map fact_of initial; values = map given_of values }

abbrev pub facts_of : Facts → State
facts_of f = state_of f.initial.now f.values.now

-- the number and the type of an object that was found
abbrev pub found_object : ℕ × ObjectRow → ℕ × ℕ
found_object o = (o.0, o.1.kind)
