-- Of objects with equal names the first has the name.
use Rattle.std.specs.Prelude.{ℕ, ◌+◌, if◌then◌else◌, List, [], ◌∷◌, ◌++◌, bytes_eq}
use Rattle.std.specs.List.{list_any}
use Rattle.stp_schema.specs.Rows.{Thing}

-- objects whose names are new when they come, their names, and the place of each among all objects
pub record Firsts : Type 0 where
  pub names : List (List ℕ)
  pub things : List Thing
  pub places : List ℕ

abbrev pub no_firsts : Firsts
no_firsts = record { names = []; things = []; places = [] }

-- the object at a place, unless there is one of its name
abbrev pub with_first : Firsts → ℕ → Thing → Firsts
with_first f place thing =
    if list_any (bytes_eq thing.name) f.names then f
    else record { names = f.names ++ thing.name ∷ []; things = f.things ++ thing ∷ []; places = f.places ++ place ∷ [] }

-- the objects from a place on
abbrev pub with_firsts : Firsts → ℕ → List Thing → Firsts
with_firsts f place [] = f
with_firsts f place (t ∷ ts) = with_firsts (with_first f place t) (place + 1) ts

abbrev pub firsts_in : List Thing → Firsts
firsts_in things = with_firsts no_firsts 0 things
