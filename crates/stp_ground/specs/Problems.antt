-- What a problem says of atoms: which are fluent, which are true at first, and which its events write.
use Rattle.std.specs.Prelude.{ℕ, Bool, true, false, not, ◌||◌, ◌==◌, if◌then◌else◌, List, [], ◌∷◌, ◌++◌, map, filter, flat_map}
use Rattle.std.specs.List.{list_any}
use Rattle.stp_schema.specs.Formula.{PlainAtom}
use Rattle.stp_schema.specs.Schemas.{PlainSchema}
use Rattle.stp_schema.specs.Timed.{PlainLiteral, PlainTimedFact}
use Rattle.stp_schema.specs.Views.{PlainFact, PlainProblem}
use Rattle.stp_tables.specs.Atoms.{Atom, is_atom}
use Rattle.stp_instance.specs.Expanded.{Claim, objects_below, expanded}
use Rattle.stp_instance.specs.Numbered.{fluent_atoms}

-- the atoms that the effects of a schema name
abbrev pub effects_of : PlainSchema → List PlainAtom
effects_of s = s.start_adds ++ s.start_dels ++ s.end_adds ++ s.end_dels

-- whether an effect of a schema names a predicate
abbrev pub writes : ℕ → PlainSchema → Bool
writes predicate s = list_any (λ a. a.symbol == predicate) (effects_of s)

-- whether some effect of these schemas names a predicate
abbrev pub is_written_by : List PlainSchema → ℕ → Bool
is_written_by schemas predicate = list_any (writes predicate) schemas

-- whether a literal of an event of the environment names a predicate
abbrev pub names : ℕ → PlainTimedFact → Bool
names predicate e = list_any (λ l. l.predicate == predicate) e.literals

-- whether some literal of these events names a predicate
abbrev pub is_named_by : List PlainTimedFact → ℕ → Bool
is_named_by events predicate = list_any (names predicate) events

-- a predicate is fluent exactly where some effect of the domain names it, or some event of the problem
abbrev pub is_written : PlainProblem → ℕ → Bool
is_written p predicate = is_written_by p.domain.schemas predicate || is_named_by p.timed predicate

abbrev pub atom_of_fact : PlainFact → Atom
atom_of_fact f = record { predicate = f.predicate; args = f.args }

-- whether an atom is one of these facts
abbrev pub is_known : List PlainFact → Atom → Bool
is_known facts atom = list_any (is_atom atom) (map atom_of_fact facts)

-- whether an atom is true at first
abbrev pub is_fact : PlainProblem → Atom → Bool
is_fact p = is_known p.initial

-- the objects of a type or of one below it
abbrev pub below : PlainProblem → ℕ → List ℕ
below p = objects_below p.domain.parents p.objects

-- the goal over ground atoms
abbrev pub goal_of : PlainProblem → Claim
goal_of p = expanded (below p) [] p.goal

-- the atom of a fact, where it is fluent
abbrev pub fluent_fact : (ℕ → Bool) → PlainFact → List Atom
fluent_fact fluent f = if fluent f.predicate then atom_of_fact f ∷ [] else []

-- the fluent ones of these facts
abbrev pub fluent_facts : (ℕ → Bool) → List PlainFact → List Atom
fluent_facts fluent facts = flat_map (fluent_fact fluent) facts

-- the fluent atoms that are true at first
abbrev pub initial_atoms : PlainProblem → List Atom
initial_atoms p = fluent_facts (is_written p) p.initial

-- the fluent atoms of the goal
abbrev pub goal_atoms : PlainProblem → List Atom
goal_atoms p = fluent_atoms (is_written p) (goal_of p)

-- ---- events of the environment

abbrev pub atom_of_literal : PlainLiteral → Atom
atom_of_literal l = record { predicate = l.predicate; args = l.args }

-- the atoms that the literals of an event name, in the order of the text
abbrev pub atoms_of_event : PlainTimedFact → List Atom
atoms_of_event e = map atom_of_literal e.literals

-- those of all events, in their order; each of them is fluent
abbrev pub event_atoms : PlainProblem → List Atom
event_atoms p = flat_map atoms_of_event p.timed

-- whether a literal adds its atom, or whether it deletes it
abbrev pub is_kind : Bool → PlainLiteral → Bool
is_kind true l = l.adds
is_kind false l = not l.adds

-- the atoms that literals add, or those that they delete
abbrev pub atoms_of_kind : Bool → List PlainLiteral → List Atom
atoms_of_kind adds literals = map atom_of_literal (filter (is_kind adds) literals)
