-- What terms stand for under a binding: the objects of the variables, by their numbers.
use Rattle.std.specs.Prelude.{ℕ, List, map, slice_index_or}
use Rattle.stp_base.specs.declared.ids.ObjectId.{ObjectId}
use Rattle.stp_schema.specs.declared.lifted.Term.{Term}
use Rattle.stp_schema.specs.declared.lifted.Term.TheVariants.{Variable, Object}

abbrev pub numbers_of : List ObjectId → List ℕ
numbers_of objects = map (λ o. o.0) objects

-- the object of a term; object 0 for a variable that has none
abbrev pub object_of : List ℕ → Term → ℕ
object_of binding (Variable number) = slice_index_or binding number 0
object_of binding (Object object) = object.0

abbrev pub objects_of : List ℕ → List Term → List ℕ
objects_of binding terms = map (object_of binding) terms
