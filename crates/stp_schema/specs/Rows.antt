-- The rows of types, predicates, functions and objects without pointers.
use Rattle.std.specs.Prelude.{ℕ, List, map}
use Rattle.stp_schema.specs.declared.rows.TypeRow.{TypeRow}
use Rattle.stp_schema.specs.declared.rows.Symbol.{Symbol}
use Rattle.stp_schema.specs.declared.rows.ObjectRow.{ObjectRow}

-- a predicate or a function, with the types of its parameters
pub record Shape : Type 0 where
  pub name : List ℕ
  pub parameters : List ℕ

-- an object, with its type
pub record Thing : Type 0 where
  pub name : List ℕ
  pub kind : ℕ

abbrev pub type_names_of : List TypeRow → List (List ℕ)
type_names_of rows = map (λ r. r.name.now) rows

abbrev pub parents_of : List TypeRow → List ℕ
parents_of rows = map (λ r. r.parent) rows

abbrev pub symbol_names_of : List Symbol → List (List ℕ)
symbol_names_of rows = map (λ r. r.name.now) rows

abbrev pub object_names_of : List ObjectRow → List (List ℕ)
object_names_of rows = map (λ r. r.name.now) rows

abbrev pub shape_of : Symbol → Shape
shape_of r = record { name = r.name.now; parameters = r.parameters.now }

abbrev pub thing_of : ObjectRow → Thing
thing_of r = record { name = r.name.now; kind = r.kind }

abbrev pub shape_names : List Shape → List (List ℕ)
shape_names shapes = map (λ s. s.name) shapes

abbrev pub thing_names : List Thing → List (List ℕ)
thing_names things = map (λ t. t.name) things
