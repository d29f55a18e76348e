-- What the structs of functions stand for.
use Rattle.std.specs.Prelude.{map}
use Rattle.stp_text.specs.Tree.{view}
use Rattle.stp_domain_tables.specs.declared.functions.Groups.{Groups as FoundGroups}
use Rattle.stp_domain_tables.specs.declared.functions.FunctionTable.{FunctionTable}
use Rattle.stp_domain_tables.specs.Functions.{Groups, Functions}
use Rattle.stp_domain_tables.specs.Views.{table_of}

abbrev pub groups_of : FoundGroups → Groups
groups_of g = record { lists = map view g.lists; kinds = map view g.kinds; waiting = g.waiting; dash = g.dash }

abbrev pub functions_of : FunctionTable → Functions
functions_of t = record { symbols = table_of t.symbols; kinds = map view t.kinds }
