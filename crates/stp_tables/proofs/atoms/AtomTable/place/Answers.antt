use Rattle.std.proofs.Common.{◌∙◌, ap}
use Rattle.stp_tables.specs.Atoms.{atom_with, number_of}
use Rattle.stp_tables.proofs.AtomKeys.{position_atoms}
use Rattle.stp_tables.proofs.atoms.AtomTable.place.Goals as goal

-- the look-up among the keys is one among the atoms
pub returns-clause-number : goal.returns-clause-number
returns-clause-number c =
    c.get_index_of.ensures.index
    ∙ position_atoms c.args.predicate c.in-Ok.args.items c.self.inside.set.keys
    ∙ ap (λ atoms. number_of atoms (atom_with c.args.predicate c.in-Ok.args.items)) c.self.view_is
    ∙ ap (λ args. number_of c.args.self.now (atom_with c.args.predicate args)) c.in-Ok.ensures.ok
