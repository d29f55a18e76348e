-- What the structs of declarations stand for.
use Rattle.std.specs.Prelude.{ℕ, List, map}
use Rattle.stp_domain_parts.specs.Entries.{plains}
use Rattle.stp_domain_tables.specs.declared.declaration.Declaration.{Declaration}
use Rattle.stp_domain_tables.specs.declared.table.SymbolTable.{SymbolTable}
use Rattle.stp_domain_tables.specs.Symbols.{Signature, Symbols}

abbrev pub signature_of : Declaration → Signature
signature_of d = record { name = d.name.now; parameters = plains d.parameters }

abbrev pub symbols_of : List (List ℕ) → List Declaration → Symbols
symbols_of names rows = record { names = names; rows = map signature_of rows }

abbrev pub table_of : SymbolTable → Symbols
table_of t = symbols_of t.names t.rows
