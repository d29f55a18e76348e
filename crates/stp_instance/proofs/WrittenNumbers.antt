-- The numbers of the atoms that an effect writes, one after the other.
use Rattle.std.proofs.Common.{◌≡◌, ℕ, ◌+◌, ◌<◌, Option, None, Some, List, [], ◌∷◌, ◌++◌, length, take, get_or, ap, sym, ◌∙◌}
use Rattle.std.specs.List.{cons_option}
use Rattle.std.proofs.lemmas.List.{append-nil, map-append, map_more}
use Rattle.std.proofs.lemmas.List.Elements.{filter_map-append}
use Rattle.stp_base.specs.declared.ids.AtomId.{AtomId}
use Rattle.stp_tables.specs.Atoms.{Atom, number_of}
use Rattle.stp_cond.specs.Views.{atoms_of}
use Rattle.stp_instance.specs.declared.effects.Written.{Written}
use Rattle.stp_instance.specs.Numbered.{numbers_in}
use Rattle.stp_instance.specs.Effects.{written_atom, written_atoms}

module _ (table : List Atom) (written : List Written) (i : ℕ) (d : Written) (out : List AtomId) (h : i < length written) (so_far : atoms_of out ≡ numbers_in table (written_atoms (take i written))) where
  next : (found : Option ℕ) → number_of table (written_atom (get_or written i d)) ≡ found → atoms_of out ++ cons_option found [] ≡ numbers_in table (written_atoms (take (i + 1) written))
  next found e =
      ap (λ l. l ++ cons_option found []) so_far
      ∙ ap (λ o. numbers_in table (written_atoms (take i written)) ++ cons_option o []) (sym e)
      ∙ sym (filter_map-append (number_of table) (written_atoms (take i written)) (written_atom (get_or written i d) ∷ []))
      ∙ ap (numbers_in table) (sym (map_more written_atom written i d h))

  pub found_next : (atom : AtomId) → number_of table (written_atom (get_or written i d)) ≡ Some atom.0 → atoms_of (out ++ atom ∷ []) ≡ numbers_in table (written_atoms (take (i + 1) written))
  found_next atom e = map-append (λ (a : AtomId). a.0) out (atom ∷ []) ∙ next (Some atom.0) e

  pub none_next : number_of table (written_atom (get_or written i d)) ≡ None → atoms_of out ≡ numbers_in table (written_atoms (take (i + 1) written))
  none_next e = sym (append-nil (atoms_of out)) ∙ next None e
