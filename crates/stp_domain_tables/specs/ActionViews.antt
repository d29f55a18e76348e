-- What the structs of actions stand for.
use Rattle.std.specs.Prelude.{ℕ, List, map}
use Rattle.stp_domain_parts.specs.Entries.{plains}
use Rattle.stp_domain_parts.specs.Views.{action_of}
use Rattle.stp_domain_tables.specs.declared.declaration.ActionDeclaration.{ActionDeclaration}
use Rattle.stp_domain_tables.specs.declared.table.ActionTable.{ActionTable}
use Rattle.stp_domain_tables.specs.Actions.{ActionSignature, Actions}

abbrev pub action_signature_of : ActionDeclaration → ActionSignature
action_signature_of d = record { action = action_of d.action; parameters = plains d.parameters }

abbrev pub actions_of : List (List ℕ) → List ActionDeclaration → Actions
actions_of names rows = record { names = names; rows = map action_signature_of rows }

abbrev pub action_table_of : ActionTable → Actions
action_table_of t = actions_of t.names t.rows
