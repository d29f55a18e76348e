-- The names of what is declared.
use Rattle.std.specs.Prelude.{ℕ, List, map}
use Rattle.stp_domain_tables.specs.declared.declaration.Declaration.{Declaration}
use Rattle.stp_domain_tables.specs.declared.declaration.ActionDeclaration.{ActionDeclaration}

abbrev pub names_of : List Declaration → List (List ℕ)
names_of rows = map (λ r. r.name.now) rows

abbrev pub action_names_of : List ActionDeclaration → List (List ℕ)
action_names_of rows = map (λ r. r.action.name.now) rows
