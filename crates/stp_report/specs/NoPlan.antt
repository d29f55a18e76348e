-- The text where a goal cannot be reached: which atoms may be true, and which are always true.
use Rattle.std.specs.Prelude.{ℕ, List, [], ◌∷◌, ◌++◌, Option, Some, None, slice_get, codes}
use Rattle.stp_schema.specs.Rows.{Shape, Thing}
use Rattle.stp_schema.specs.Views.{PlainProblem}
use Rattle.stp_tables.specs.Atoms.{Atom}

abbrev pub shape_name : Option Shape → List ℕ
shape_name (Some shape) = shape.name
shape_name None = []

abbrev pub thing_name : Option Thing → List ℕ
thing_name (Some thing) = thing.name
thing_name None = []

-- the names of objects, each behind a space
abbrev pub args_text : List Thing → List ℕ → List ℕ
args_text objects [] = []
args_text objects (o ∷ os) = 32 ∷ thing_name (slice_get objects o) ++ args_text objects os

-- a predicate's name and those of its arguments, in parentheses
abbrev pub atom_text : PlainProblem → Atom → List ℕ
atom_text p a = 40 ∷ shape_name (slice_get p.domain.predicates a.predicate) ++ args_text p.objects a.args ++ codes ")"

-- the text of the atom with this number
abbrev pub numbered_text : PlainProblem → Option Atom → List ℕ
numbered_text p (Some a) = atom_text p a
numbered_text p None = []

-- a line for each of these atoms, behind a word
abbrev pub atom_lines : PlainProblem → List Atom → List ℕ → List ℕ → List ℕ
atom_lines p atoms word [] = []
atom_lines p atoms word (n ∷ ns) = (word ++ numbered_text p (slice_get atoms n) ++ 10 ∷ []) ++ atom_lines p atoms word ns

abbrev pub unreachable_text : PlainProblem → List Atom → List ℕ → List ℕ → List ℕ
unreachable_text p atoms may always =
    (codes "no plan: unreachable" ++ 10 ∷ []) ++ atom_lines p atoms (codes "may ") may ++ atom_lines p atoms (codes "always ") always
