-- What an atom becomes, where it is found by a binary search.
use Rattle.std.proofs.Common.{◌≡◌, ℕ, ◌<◌, zero, suc, true, false, ◌==◌, nat_lt, cond, List, [], ◌∷◌, map, length, get_or, refl, sym, ap, ◌∙◌, Ok, Err, arith, Bor}
use Rattle.std.specs.List.{list_all}
use Rattle.std.specs.List.Sorted.{IsBinarySearchResult, IsSearchInRange}
use Rattle.std.specs.Ordering.{nat_cmp}
use Rattle.std.specs.declared.cmp.Ordering.TheVariants.{Equal}
use Rattle.std.proofs.lemmas.Bool.Decides.{nat_tests}
use Rattle.std.proofs.lemmas.Bool.{and_parts, cond-true, cond-false, eq-eqb, ne_eqb, ltb-true, or_parts}
use Rattle.std.proofs.lemmas.List.Recursion.{and_at}
use Rattle.stp_base.specs.declared.ids.AtomId.{AtomId}
use Rattle.stp_cond.specs.declared.cond.Cond.{Cond}
use Rattle.stp_cond.specs.declared.cond.Cond.TheVariants.{Not, And, Or}
use Rattle.stp_cond.specs.Atoms.{has, set_of}
use Rattle.stp_cond.specs.Views.{atoms_of}
use Rattle.stp_cond.specs.Formulas.{Conjunction, Disjunction, Negation, formulas_of, view}
use Rattle.stp_cond.specs.Substituted.{image_of, substituted, substituted_all}
use Rattle.stp_cond.proofs.Among.{among}
use Rattle.stp_cond.proofs.Rising.{rises, rises_from_set}
use Rattle.stp_cond.proofs.Viewing.{view_not, view_and, view_or, substituted_all_of}

-- an atom of the one list becomes that at its place in the other
pub image_at : (from to : List ℕ) (i : ℕ) (d e : ℕ) → rises from ≡ true → length from ≡ length to → i < length from → image_of from to (get_or from i d) ≡ get_or to i e
image_at [] to i d e up same h = absurd (omega arith)
image_at (f ∷ fs) [] i d e up same h = absurd (omega arith)
image_at (f ∷ fs) (t ∷ ts) zero d e up same h = cond-true (f == f) t (image_of fs ts f) (eq-eqb f f refl)
image_at (f ∷ fs) (t ∷ ts) (suc i) d e up same h =
    let parts = and_parts (list_all (nat_lt f) fs) (rises fs) up in
    let less : f < get_or fs i d = ltb-true f (get_or fs i d) (and_at (list_all (nat_lt f)) (nat_lt f) refl (λ _ _. refl) fs i d (omega arith) parts.0) in
    cond-false (f == get_or fs i d) t (image_of fs ts (get_or fs i d)) (ne_eqb f (get_or fs i d) (λ q. omega arith))
    ∙ image_at fs ts i d e parts.1 (omega arith) (omega arith)

-- another atom stays
pub image_other : (from to : List ℕ) (a : ℕ) → has from a ≡ false → image_of from to a ≡ a
image_other [] to a h = refl
image_other (f ∷ fs) [] a h = refl
image_other (f ∷ fs) (t ∷ ts) a h =
    let parts = or_parts (f == a) (has fs a) h in
    cond-false (f == a) t (image_of fs ts a) parts.0 ∙ image_other fs ts a parts.1

-- ---- lists of atoms

same_number : (a b : ℕ) → nat_cmp a b ≡ Equal → a ≡ b
same_number a b h = grind (arith, nat_tests)

number_at : (xs : List AtomId) (i : ℕ) (d : AtomId) → (get_or xs i d).0 ≡ get_or (atoms_of xs) i d.0
number_at [] i d = refl
number_at (x ∷ xs) zero d = refl
number_at (x ∷ xs) (suc i) d = number_at xs i d

length_atoms : (xs : List AtomId) → length (atoms_of xs) ≡ length xs
length_atoms [] = refl
length_atoms (x ∷ xs) = ap suc (length_atoms xs)

pub image_found : (from to : List AtomId) (a i : ℕ) (d : AtomId) → set_of (atoms_of from) ≡ atoms_of from → length from ≡ length to → i < length from → IsBinarySearchResult (λ y. nat_cmp y.0 a) from (Ok i) → (get_or to i d).0 ≡ image_of (atoms_of from) (atoms_of to) a
image_found from to a i d once same within found =
    let e = number_at from i d in
    let k = length_atoms from in
    let l = length_atoms to in
    let h : get_or (atoms_of from) i d.0 ≡ a = sym e ∙ same_number (get_or from i d).0 a (found d) in
    number_at to i d
    ∙ sym (image_at (atoms_of from) (atoms_of to) i d.0 d.0 (rises_from_set (atoms_of from) once) (omega arith) (omega arith))
    ∙ ap (image_of (atoms_of from) (atoms_of to)) h

pub image_missing : (from to : List AtomId) (a i : ℕ) → set_of (atoms_of from) ≡ atoms_of from → IsSearchInRange (Err i) (length from) → IsBinarySearchResult (λ y. nat_cmp y.0 a) from (Err i) → a ≡ image_of (atoms_of from) (atoms_of to) a
image_missing from to a i once within found = sym (image_other (atoms_of from) (atoms_of to) a (sym (among from a (Err i) once within found)))

-- ---- whole formulas

pub substituted_negation : (image : ℕ → ℕ) (cond : Cond) (part new : Bor Cond) → cond ≡ Not part → view new.now ≡ substituted image (view part.now) → view (Not new) ≡ substituted image (view cond)
substituted_negation image cond part new is same = view_not new ∙ ap Negation same ∙ ap (substituted image) (sym (ap view is ∙ view_not part))

maps : (image : ℕ → ℕ) (cs : List Cond) → map (substituted image) (map view cs) ≡ map (λ c. substituted image (view c)) cs
maps image [] = refl
maps image (c ∷ cs) = ap (λ l. substituted image (view c) ∷ l) (maps image cs)

members : (image : ℕ → ℕ) (parts new : List Cond) → map view new ≡ map (λ c. substituted image (view c)) parts → formulas_of (map view new) ≡ substituted_all image (formulas_of (map view parts))
members image parts new same = ap formulas_of (same ∙ sym (maps image parts)) ∙ sym (substituted_all_of image (map view parts))

pub substituted_conjunction : (image : ℕ → ℕ) (cond : Cond) (parts new : Bor (List Cond)) → cond ≡ And parts → map view new.now ≡ map (λ c. substituted image (view c)) parts.now → view (And new) ≡ substituted image (view cond)
substituted_conjunction image cond parts new is same = view_and new ∙ ap Conjunction (members image parts.now new.now same) ∙ ap (substituted image) (sym (ap view is ∙ view_and parts))

pub substituted_disjunction : (image : ℕ → ℕ) (cond : Cond) (parts new : Bor (List Cond)) → cond ≡ Or parts → map view new.now ≡ map (λ c. substituted image (view c)) parts.now → view (Or new) ≡ substituted image (view cond)
substituted_disjunction image cond parts new is same = view_or new ∙ ap Disjunction (members image parts.now new.now same) ∙ ap (substituted image) (sym (ap view is ∙ view_or parts))
