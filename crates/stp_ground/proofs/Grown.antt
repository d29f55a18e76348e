-- A table that gains some atoms, and then others.
use Rattle.std.proofs.Common.{◌≡◌, List, [], ◌∷◌, ◌++◌, ap, sym, subst, ◌∙◌}
use Rattle.stp_tables.specs.Atoms.{Atom, with_atom}
use Rattle.stp_instance.specs.Numbered.{IsGrown, with_atoms}
use Rattle.stp_instance.proofs.Gained.{with_atoms_grow}
use Rattle.stp_instance.proofs.Gathered.{grown_again, with_both}

pub grown_more : (old now new : List Atom) → IsGrown old now → IsGrown now new → IsGrown old new
grown_more = grown_again

pub grown_by : (old new : List Atom) (atom : Atom) → new ≡ with_atom old atom → IsGrown old new
grown_by old new atom e = subst (IsGrown old) (sym e) (with_atoms_grow old (atom ∷ []))

pub gained_more : (old now new xs ys : List Atom) → now ≡ with_atoms old xs → new ≡ with_atoms now ys → new ≡ with_atoms old (xs ++ ys)
gained_more old now new xs ys e f = f ∙ ap (λ t. with_atoms t ys) e ∙ sym (with_both old xs ys)
