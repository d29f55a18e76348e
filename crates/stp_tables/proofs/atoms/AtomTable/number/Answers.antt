use Rattle.std.proofs.Common.{◌∙◌, ap, sym, subst, rules, map, Some}
use Rattle.stp_tables.specs.declared.atoms.GroundAtom.{GroundAtom}
use Rattle.stp_tables.specs.Atoms.{atom_with, atom_of, is_atom, with_atom, number_of, AreNumberedOnce}
use Rattle.stp_tables.proofs.FirstSight.{found_at, once_with}
use Rattle.stp_tables.proofs.AtomKeys.{atoms_same, atoms_with, number_then, same_atom}
use Rattle.stp_tables.proofs.atoms.AtomTable.number.Goals as goal

-- the table stays one of atoms that stand there once
pub invariant_of-self-2 : goal.invariant_of-self-2
invariant_of-self-2 c =
    let key : GroundAtom = record { predicate = c.args.predicate; args = c.in_ok-args.args } in (
      search rules,
      subst AreNumberedOnce (sym (atoms_with key c.self.inside.set.keys c.insert_full.new.self.keys c.in_ok-number.ensures.keys))
          (once_with is_atom same_atom (atom_of key) (map atom_of c.self.inside.set.keys) c.self.invariant.1),
    )

-- the atoms behind the keys are those of before with this one
pub returns-clause-atoms : goal.returns-clause-atoms
returns-clause-atoms c =
    let key : GroundAtom = record { predicate = c.args.predicate; args = c.in_ok-args.args } in
    atoms_with key c.self.inside.set.keys c.insert_full.new.self.keys c.in_ok-number.ensures.keys
    ∙ ap (λ args. with_atom (map atom_of c.self.inside.set.keys) (atom_with c.args.predicate args)) c.in_ok-args.ensures.ok
    ∙ ap (λ atoms. with_atom atoms (atom_with c.args.predicate c.args.args.now)) c.self.view_is

-- its number then is the place of its key
pub returns-clause-number : goal.returns-clause-number
returns-clause-number c =
    let key : GroundAtom = record { predicate = c.args.predicate; args = c.in_ok-args.args } in
    ap (λ args. number_of (map atom_of c.insert_full.new.self.keys) (atom_with c.args.predicate args)) (sym c.in_ok-args.ensures.ok)
    ∙ ap (λ atoms. number_of atoms (atom_of key)) (atoms_with key c.self.inside.set.keys c.insert_full.new.self.keys c.in_ok-number.ensures.keys)
    ∙ number_then key c.self.inside.set.keys
    ∙ ap Some (sym c.in_ok-number.ensures.index)

-- what has a number stands there
pub returns-clause-atom : goal.returns-clause-atom
returns-clause-atom c =
    let key : GroundAtom = record { predicate = c.args.predicate; args = c.in_ok-args.args } in
    found_at is_atom atoms_same (map atom_of c.insert_full.new.self.keys) (atom_of key) c.in_ok-number.number
    (ap (λ atoms. number_of atoms (atom_of key)) (atoms_with key c.self.inside.set.keys c.insert_full.new.self.keys c.in_ok-number.ensures.keys)
    ∙ number_then key c.self.inside.set.keys
    ∙ ap Some (sym c.in_ok-number.ensures.index))
    ∙ ap (λ args. Some (atom_with c.args.predicate args)) c.in_ok-args.ensures.ok
