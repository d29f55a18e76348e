-- The types with their parents, and the objects.
use Rattle.std.specs.Prelude.{ℕ, List}
use Rattle.stp_schema.specs.Rows.{Thing}
use Rattle.stp_instance.specs.Expanded.{objects_below}

pub record Typing : Type 0 where
  pub parents : List ℕ
  pub objects : List Thing

-- the objects of a type
abbrev pub objects_in : Typing → ℕ → List ℕ
objects_in typing kind = objects_below typing.parents typing.objects kind
