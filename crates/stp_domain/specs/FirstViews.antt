-- What the struct of first objects stands for.
use Rattle.std.specs.Prelude.{ℕ, List, map}
use Rattle.stp_schema.specs.declared.rows.ObjectRow.{ObjectRow}
use Rattle.stp_schema.specs.Rows.{thing_of}
use Rattle.stp_domain.specs.Firsts.{Firsts}

abbrev pub firsts_of : List (List ℕ) → List ObjectRow → List ℕ → Firsts
firsts_of names rows places = record { names = names; things = map thing_of rows; places = places }
