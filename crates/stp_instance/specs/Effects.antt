-- What an effect adds and deletes under a binding.
use Rattle.std.specs.Prelude.{ℕ, List, map}
use Rattle.stp_schema.specs.Formula.{PlainAtom}
use Rattle.stp_tables.specs.Atoms.{Atom, atom_with}
use Rattle.stp_instance.specs.Bindings.{objects_of}
use Rattle.stp_cond.specs.Atoms.{set_of, without}
use Rattle.stp_instance.specs.declared.effects.Written.{Written}
use Rattle.stp_instance.specs.Numbered.{numbers_in}

abbrev pub ground_atom : List ℕ → PlainAtom → Atom
ground_atom binding atom = record { predicate = atom.symbol; args = objects_of binding atom.terms }

-- these atoms under a binding
abbrev pub ground_atoms : List ℕ → List PlainAtom → List Atom
ground_atoms binding atoms = map (ground_atom binding) atoms

abbrev pub written_atom : Written → Atom
written_atom w = atom_with w.predicate w.args.now

-- the atoms that an effect writes
abbrev pub written_atoms : List Written → List Atom
written_atoms written = map written_atom written

-- the numbers of the atoms that are added
abbrev pub added : List Atom → List Atom → List ℕ
added table adds = set_of (numbers_in table adds)

-- the numbers of the atoms that are deleted; an atom that is added too is not
abbrev pub deleted : List Atom → List Atom → List Atom → List ℕ
deleted table adds dels = set_of (without (numbers_in table dels) (numbers_in table adds))
