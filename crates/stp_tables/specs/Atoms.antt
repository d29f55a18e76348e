-- Ground atoms in the order in which they came.
use Rattle.std.specs.Prelude.{ℕ, Bool, ◌&&◌, ◌==◌, List, Option, map, bytes_eq}
use Rattle.stp_base.specs.declared.ids.ObjectId.{ObjectId}
use Rattle.stp_tables.specs.FirstSight.{place_of, with_thing, AreEachOnce}
use Rattle.stp_tables.specs.declared.atoms.GroundAtom.{GroundAtom}

-- a predicate with objects as its arguments, all by their numbers
pub record Atom : Type 0 where
  pub predicate : ℕ
  pub args : List ℕ

abbrev pub object_number : ObjectId → ℕ
object_number object = object.0

abbrev pub numbers_of : List ObjectId → List ℕ
numbers_of objects = map object_number objects

abbrev pub atom_with : ℕ → List ObjectId → Atom
atom_with predicate args = record { predicate = predicate; args = numbers_of args }

-- what an atom of the table stands for
abbrev pub atom_of : GroundAtom → Atom
atom_of key = atom_with key.predicate key.args.items

-- whether two atoms are the same
abbrev pub is_atom : Atom → Atom → Bool
is_atom one other = (one.predicate == other.predicate) && bytes_eq one.args other.args

-- the number of an atom, if it has one
abbrev pub number_of : List Atom → Atom → Option ℕ
number_of atoms atom = place_of is_atom atoms atom

-- the atoms once this one is among them
abbrev pub with_atom : List Atom → Atom → List Atom
with_atom atoms atom = with_thing is_atom atoms atom

-- each atom once
abbrev pub AreNumberedOnce : List Atom → Type 0
AreNumberedOnce atoms = AreEachOnce is_atom atoms
