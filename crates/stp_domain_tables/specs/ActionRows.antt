-- What rows of actions stand for.
use Rattle.std.specs.Prelude.{ℕ, List, map}
use Rattle.stp_domain_parts.specs.Views.{action_of}
use Rattle.stp_domain_tables.specs.declared.action_row.ActionRow.{ActionRow}
use Rattle.stp_domain_tables.specs.Tables.{ActionShape}

abbrev pub action_shape_of : ActionRow → ActionShape
action_shape_of a = record { action = action_of a.action; names = map (λ n. n.now) a.names.now; kinds = a.kinds.now }

abbrev pub row_names_of : List ActionRow → List (List ℕ)
row_names_of rows = map (λ a. a.action.name.now) rows
