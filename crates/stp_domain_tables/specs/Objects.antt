-- Objects after others, each name once, and the constants of a domain that is read.
use Rattle.std.specs.Prelude.{◌≡◌, ℕ, ◌<◌, if◌then◌else◌, List, [], ◌∷◌, ◌++◌, length, All}
use Rattle.stp_tables.specs.Names.{is_new_in}
use Rattle.stp_schema.specs.Rows.{Thing, thing_names}
use Rattle.stp_schema.specs.Views.{PlainDomain}

-- one object after others, unless there is one of its name
abbrev pub with_object : List Thing → Thing → List Thing
with_object things t = if is_new_in (thing_names things) t.name then things ++ t ∷ [] else things

-- objects after others, each name once
abbrev pub with_objects : List Thing → List Thing → List Thing
with_objects things [] = things
with_objects things (t ∷ ts) = with_objects (with_object things t) ts

-- There is a type, each constant has one, and no two constants have one name.
pub record HasLawfulConstants (d : PlainDomain) : Type 0 where
  pub types : 0 < length d.types
  pub kinds : All (λ c. c.kind < length d.types) d.constants
  pub once : with_objects [] d.constants ≡ d.constants
