use Rattle.std.proofs.Common.{◌∙◌, ap, sym, subst, Some}
use Rattle.std.specs.Prelude.{slice_get, option_map}
use Rattle.std.proofs.lemmas.Option.{slice_get-map}
use Rattle.stp_tables.specs.Atoms.{atom_of, atom_with, AreNumberedOnce}
use Rattle.stp_tables.proofs.atoms.AtomTable.get.Goals as goal

-- each atom stands once, so the one at a place has the place as its number
pub returns-clause-number : goal.returns-clause-number
returns-clause-number c =
    subst AreNumberedOnce c.self.view_is c.self.invariant.1 c.args.atom.0 (atom_with c.in-Some.key.now.predicate c.as_slice.result.now)
    (ap (λ atoms. slice_get atoms c.args.atom.0) (sym c.self.view_is)
    ∙ slice_get-map atom_of c.self.inside.set.keys c.args.atom.0
    ∙ ap (option_map atom_of) (sym c.in-Some.ensures.key)
    ∙ ap (λ args. Some (atom_with c.in-Some.key.now.predicate args)) (sym c.as_slice.ensures))
