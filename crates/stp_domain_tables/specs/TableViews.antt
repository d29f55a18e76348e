-- What the structs of the tables stand for.
use Rattle.std.specs.Prelude.{map}
use Rattle.stp_schema.specs.Known.{known}
use Rattle.stp_domain_tables.specs.declared.tables.DeclaredDomain.{DeclaredDomain}
use Rattle.stp_domain_tables.specs.Tables.{Tables}
use Rattle.stp_domain_tables.specs.ActionRows.{action_shape_of}

abbrev pub tables_of : DeclaredDomain → Tables
tables_of d = record { known = known d.declared d.constants.rows.now; actions = map action_shape_of d.actions.now }
