-- How many objects a type has.
use Rattle.std.specs.Prelude.{◌≡◌, ℕ, List, length, slice_index}
use Rattle.std.specs.List.{count_by}
use Rattle.stp_types.specs.Forest.{is_below}
use Rattle.stp_schema.specs.Rows.{Thing}

-- the number of objects of a type, those of the types below it counted
abbrev pub size_of : List ℕ → List Thing → ℕ → ℕ
size_of parents objects kind = count_by (λ o. is_below parents o.kind kind) objects

-- the size of each type, by its number; what is no type has no objects
pub record AreSizes (parents : List ℕ) (objects : List Thing) (sizes : List ℕ) : Type 0 where
  pub len : length sizes ≡ length parents
  pub each : (kind : ℕ) → slice_index sizes kind ≡ size_of parents objects kind
