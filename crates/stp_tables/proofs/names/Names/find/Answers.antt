use Rattle.std.proofs.Common.{sym}
use Rattle.std.specs.Prelude.{bytes_eq}
use Rattle.stp_tables.proofs.FirstSight.{found_at}
use Rattle.stp_tables.proofs.NameKeys.{names_same}
use Rattle.stp_tables.proofs.names.Names.find.Goals as goal

-- what has a number stands there
pub returns-clause-name : goal.returns-clause-name
returns-clause-name c = found_at bytes_eq names_same c.args.self.now c.args.name.now c.in_ok-number.number (sym c.in_ok-number.ensures.number)
