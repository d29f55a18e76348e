-- The atoms of facts and events, one after the other.
use Rattle.std.proofs.Common.{◌≡◌, ℕ, ◌+◌, ◌<◌, List, length, map, flat_map, drop, get_or, ap, sym, ◌∙◌}
use Rattle.std.proofs.lemmas.List.{drop_more}
use Rattle.stp_tables.specs.Atoms.{Atom, with_atom}
use Rattle.stp_instance.specs.Numbered.{with_atoms}
use Rattle.stp_instance.proofs.Gathered.{with_both}

-- the atoms of one item more
pub atoms_more : {A B : Type 0} (view : A → B) (atoms : B → List Atom) (given : List A) (i : ℕ) (d : A) (old now new : List Atom) → i < length given → now ≡ with_atoms old (atoms (view (get_or given i d))) → with_atoms old (flat_map atoms (map view (drop i given))) ≡ new → with_atoms now (flat_map atoms (map view (drop (i + 1) given))) ≡ new
atoms_more view atoms given i d old now new h e so_far =
    let rest = flat_map atoms (map view (drop (i + 1) given)) in
    ap (λ t. with_atoms t rest) e
    ∙ sym (with_both old (atoms (view (get_or given i d))) rest)
    ∙ ap (λ l. with_atoms old (flat_map atoms (map view l))) (sym (drop_more given i d h))
    ∙ so_far

-- the one atom of an item more
pub one_more : {A B : Type 0} (view : A → B) (atom : B → Atom) (given : List A) (i : ℕ) (d : A) (old now new : List Atom) → i < length given → now ≡ with_atom old (atom (view (get_or given i d))) → with_atoms old (map atom (map view (drop i given))) ≡ new → with_atoms now (map atom (map view (drop (i + 1) given))) ≡ new
one_more view atom given i d old now new h e so_far =
    ap (λ t. with_atoms t (map atom (map view (drop (i + 1) given)))) e
    ∙ ap (λ l. with_atoms old (map atom (map view l))) (sym (drop_more given i d h))
    ∙ so_far
