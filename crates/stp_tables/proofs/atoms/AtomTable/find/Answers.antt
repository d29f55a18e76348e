use Rattle.std.proofs.Common.{sym}
use Rattle.stp_tables.proofs.FirstSight.{found_at}
use Rattle.stp_tables.proofs.AtomKeys.{atoms_same}
use Rattle.stp_tables.specs.Atoms.{atom_with, is_atom}
use Rattle.stp_tables.proofs.atoms.AtomTable.find.Goals as goal

-- what has a number stands there
pub returns-clause-atom : goal.returns-clause-atom
returns-clause-atom c = found_at is_atom atoms_same c.args.self.now (atom_with c.args.predicate c.args.args.now) c.in_ok-number.number (sym c.in_ok-number.ensures.number)
