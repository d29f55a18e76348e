-- What rows of objects stand for.
use Rattle.std.specs.Prelude.{ℕ, List, map}
use Rattle.stp_schema.specs.declared.rows.ObjectRow.{ObjectRow}
use Rattle.stp_schema.specs.Rows.{thing_of}
use Rattle.stp_domain_tables.specs.Tables.{Things}

abbrev pub things_of : List (List ℕ) → List ObjectRow → Things
things_of names rows = record { names = names; rows = map thing_of rows }
