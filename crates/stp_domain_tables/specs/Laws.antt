-- The tables have what the text says.
use Rattle.std.specs.Prelude.{◌≡◌, []}
use Rattle.stp_domain_tables.specs.Declarations.{Declarations}
use Rattle.stp_domain_tables.specs.Types.{types_in, parents_in, loops_wrong}
use Rattle.stp_domain_tables.specs.Tables.{tables_read}

abbrev pub ParentsAreKept : Type 0
ParentsAreKept =
    (d : Declarations)
    → loops_wrong (types_in d.type_items) (parents_in (types_in d.type_items) d.types) d.types ≡ []
    → (tables_read d).value.known.parents ≡ parents_in (types_in d.type_items) d.types
