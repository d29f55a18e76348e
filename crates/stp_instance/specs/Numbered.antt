-- The atoms of a condition with their numbers, and what is left of it once it is folded.
use Rattle.std.specs.Prelude.{◌≡◌, ℕ, Bool, true, false, ◌==◌, if◌then◌else◌, List, [], ◌∷◌, ◌++◌, Option, None, Some, slice_index_or}
use Rattle.std.specs.Option.{is_some}
use Rattle.std.specs.List.{filter_map}
use Rattle.stp_tables.specs.Atoms.{Atom, number_of, with_atom}
use Rattle.stp_cond.specs.declared.known.Three.TheVariants.{Unknown}
use Rattle.stp_cond.specs.Formulas.{Formula, Formulas, Always, Never, Atomic, Negation, Conjunction, Disjunction, NoMore, More}
use Rattle.stp_cond.specs.Folded.{folded}
use Rattle.stp_instance.specs.Expanded.{Claim, Claims, Stated, Alike, Denied, AllOf, AnyOf, NoClaims, Also}

-- whether a predicate is fluent; one past the end of the list is not
abbrev pub is_fluent : List Bool → ℕ → Bool
is_fluent marks predicate = slice_index_or marks predicate false

-- whether an atom is in a table
abbrev pub is_in : List Atom → Atom → Bool
is_in table atom = is_some (number_of table atom)

-- the fluent atoms of a condition from left to right, with repeats
abbrev mutual
  pub fluent_atoms : (ℕ → Bool) → Claim → List Atom
  fluent_atoms fluent (Stated atom) = if fluent atom.predicate then atom ∷ [] else []
  fluent_atoms fluent (Alike one other) = []
  fluent_atoms fluent (Denied inner) = fluent_atoms fluent inner
  fluent_atoms fluent (AllOf members) = fluent_atoms_of_all fluent members
  fluent_atoms fluent (AnyOf members) = fluent_atoms_of_all fluent members

  pub fluent_atoms_of_all : (ℕ → Bool) → Claims → List Atom
  fluent_atoms_of_all fluent NoClaims = []
  fluent_atoms_of_all fluent (Also first rest) = fluent_atoms fluent first ++ fluent_atoms_of_all fluent rest

-- a table once these are among its atoms, new ones in the order of first sight
abbrev pub with_atoms : List Atom → List Atom → List Atom
with_atoms table [] = table
with_atoms table (atom ∷ atoms) = with_atoms (with_atom table atom) atoms

-- a table is another, or has more atoms behind its own
abbrev pub IsGrown : List Atom → List Atom → Type 0
IsGrown old new = (more : List Atom) × (new ≡ old ++ more)

-- the numbers of those of these atoms that have one
abbrev pub numbers_in : List Atom → List Atom → List ℕ
numbers_in table atoms = filter_map (number_of table) atoms

abbrev pub constant : Bool → Formula
constant true = Always
constant false = Never

-- an atom that has no number is false
abbrev pub by_number : Option ℕ → Formula
by_number None = Never
by_number (Some number) = Atomic number

abbrev pub numbered_atom : (ℕ → Bool) → (Atom → Bool) → List Atom → Atom → Formula
numbered_atom fluent is_true table atom = if fluent atom.predicate then by_number (number_of table atom) else constant (is_true atom)

-- a condition by the numbers of its fluent atoms; what is static is true or false
abbrev mutual
  pub numbered : (ℕ → Bool) → (Atom → Bool) → List Atom → Claim → Formula
  numbered fluent is_true table (Stated atom) = numbered_atom fluent is_true table atom
  numbered fluent is_true table (Alike one other) = constant (one == other)
  numbered fluent is_true table (Denied inner) = Negation (numbered fluent is_true table inner)
  numbered fluent is_true table (AllOf members) = Conjunction (numbered_all fluent is_true table members)
  numbered fluent is_true table (AnyOf members) = Disjunction (numbered_all fluent is_true table members)

  pub numbered_all : (ℕ → Bool) → (Atom → Bool) → List Atom → Claims → Formulas
  numbered_all fluent is_true table NoClaims = NoMore
  numbered_all fluent is_true table (Also first rest) = More (numbered fluent is_true table first) (numbered_all fluent is_true table rest)

-- what is left of it once it is folded
abbrev pub folded_ground : (ℕ → Bool) → (Atom → Bool) → List Atom → Claim → Formula
folded_ground fluent is_true table claim = folded (λ atom. Unknown) (numbered fluent is_true table claim)
