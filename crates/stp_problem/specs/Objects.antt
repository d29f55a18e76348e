-- The objects of a problem.
use Rattle.std.specs.Prelude.{ℕ, List, [], ◌∷◌, map, None, is_some}
use Rattle.stp_text.specs.Tree.{Tree, Trees, Word, Node}
use Rattle.stp_refusal.specs.declared.code.Code.TheVariants.{P06, P07}
use Rattle.stp_refusal.specs.declared.offence.Offence.{Offence}
use Rattle.stp_refusal.specs.Read.{Read, also, map_read, offence_at, unless}
use Rattle.stp_tables.specs.Names.{number_of, with_name}
use Rattle.stp_domain_parts.specs.declared.judged.WordKind.TheVariants.{Name}
use Rattle.stp_domain_parts.specs.Entries.{Plain, entries_of}
use Rattle.stp_domain_parts.specs.Judged.{names_wrong, each_wrong, kind_number, of_kind_wrong}
use Rattle.stp_schema.specs.Rows.{Thing}
use Rattle.stp_domain_tables.specs.Objects.{with_objects}

-- a type that is a list, at it, and one that is not declared, at the first object of its group
abbrev pub type_wrong : List (List ℕ) → ℕ → Tree → List Offence
type_wrong types group (Word at text) = unless (is_some (number_of types text)) (offence_at group P06)
type_wrong types group (Node at items) = offence_at at P06

abbrev pub types_wrong : List (List ℕ) → List Plain → List Offence
types_wrong types es = each_wrong (λ e. of_kind_wrong (type_wrong types e.group) e.kind) es

-- the names of objects after others, each once
abbrev pub names_with : List (List ℕ) → List Thing → List (List ℕ)
names_with names [] = names
names_with names (t ∷ ts) = names_with (with_name names t.name) ts

-- an object, with the number of its type
abbrev pub declared_object : List (List ℕ) → Plain → Thing
declared_object types e = record { name = e.name; kind = kind_number types e }

abbrev pub declared_objects : List (List ℕ) → List Plain → List Thing
declared_objects types es = map (declared_object types) es

-- the constants, and then the objects that are declared
abbrev pub all_objects : List (List ℕ) → List Thing → List Plain → List Thing
all_objects types constants es = with_objects (with_objects [] constants) (declared_objects types es)

-- What the items of `:objects` say: words that are no names, names that are repeated, types that are lists or not declared.
abbrev pub objects_read : List (List ℕ) → List Thing → Trees → Read (List Thing)
objects_read types constants items =
    map_read (all_objects types constants)
    (also (types_wrong types)
    (also (names_wrong Name P06 P07 (names_with [] constants))
    (entries_of P06 [] None items)))
