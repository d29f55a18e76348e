-- What a reader knows: what a domain declares, and the objects that there are.
use Rattle.std.specs.Prelude.{ℕ, List, map}
use Rattle.stp_schema.specs.declared.rows.ObjectRow.{ObjectRow}
use Rattle.stp_schema.specs.declared.declared.Declared.{Declared}
use Rattle.stp_schema.specs.Rows.{Shape, Thing, type_names_of, parents_of, shape_of, thing_of}

-- The names of the types and the parent of each, the predicates, the functions, the objects. A number is a place.
pub record Known : Type 0 where
  pub types : List (List ℕ)
  pub parents : List ℕ
  pub predicates : List Shape
  pub functions : List Shape
  pub objects : List Thing

-- what a reader knows that has these declarations and objects
abbrev pub known : Declared → List ObjectRow → Known
known d objects = record {
  types = type_names_of d.types.now;
  parents = parents_of d.types.now;
  predicates = map shape_of d.predicates.now;
  functions = map shape_of d.functions.now;
  objects = map thing_of objects;
}
