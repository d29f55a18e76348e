-- The keys of a table of atoms, and the atoms behind them.
use Rattle.std.proofs.Common.{◌≡◌, ℕ, Bool, true, List, [], ◌∷◌, ◌++◌, if◌then◌else◌, map, Some, refl, ap, ◌∙◌, arith}
use Rattle.std.specs.Prelude.{position, bytes_eq, ◌&&◌, ◌==◌}
use Rattle.std.specs.Cmp.Lexicographic.{pointwise}
use Rattle.std.specs.List.{list_any, position_or_len}
use Rattle.std.proofs.lemmas.Bool.Decides.{nat_tests}
use Rattle.std.proofs.lemmas.Slice.Eq.{bytes_eq-Decides}
use Rattle.stp_base.specs.declared.ids.ObjectId.{ObjectId}
use Rattle.stp_tables.specs.declared.atoms.GroundAtom.{GroundAtom}
use Rattle.stp_tables.specs.Atoms.{Atom, numbers_of, atom_with, atom_of, is_atom, number_of, with_atom}
use Rattle.stp_tables.proofs.FirstSight as sight

pub same_atom : (atom : Atom) → is_atom atom atom ≡ true
same_atom atom = grind (arith, nat_tests, bytes_eq-Decides)

abbrev atom_by : ℕ → List ℕ → Atom
atom_by predicate args = record { predicate = predicate; args = args }

pub atoms_same : (one other : Atom) → is_atom one other ≡ true → one ≡ other
atoms_same one other e = same_parts one other (grind (arith, nat_tests, bytes_eq-Decides, e)) (grind (arith, nat_tests, bytes_eq-Decides, e))
  where
    same_parts : (one other : Atom) → one.predicate ≡ other.predicate → one.args ≡ other.args → one ≡ other
    same_parts one other e f = ap (λ n. atom_by n one.args) e ∙ ap (atom_by other.predicate) f

-- whether an atom that is looked up is that of a key
abbrev pub is_key : ℕ → List ObjectId → GroundAtom → Bool
is_key predicate args key = (predicate == key.predicate) && pointwise (λ (a b : ObjectId). a.0 == b.0) args key.args.items

same_objects : (xs ys : List ObjectId) → pointwise (λ (a b : ObjectId). a.0 == b.0) xs ys ≡ bytes_eq (numbers_of xs) (numbers_of ys)
same_objects [] [] = refl
same_objects [] (y ∷ ys) = refl
same_objects (x ∷ xs) [] = refl
same_objects (x ∷ xs) (y ∷ ys) = ap (λ b. (x.0 == y.0) && b) (same_objects xs ys)

key_is : (predicate : ℕ) (args : List ObjectId) (key : GroundAtom) → is_key predicate args key ≡ is_atom (atom_with predicate args) (atom_of key)
key_is predicate args key = ap (λ b. (predicate == key.predicate) && b) (same_objects args key.args.items)

pub position_atoms : (predicate : ℕ) (args : List ObjectId) (keys : List GroundAtom) → position (is_key predicate args) keys ≡ number_of (map atom_of keys) (atom_with predicate args)
position_atoms predicate args keys = sight.position_keys atom_of is_atom (is_key predicate args) (atom_with predicate args) (key_is predicate args) keys

module _ (key : GroundAtom) (keys : List GroundAtom) where
  pub atoms_with : (new : List GroundAtom) → new ≡ (if list_any (is_key key.predicate key.args.items) keys then keys else keys ++ key ∷ []) → map atom_of new ≡ with_atom (map atom_of keys) (atom_of key)
  atoms_with new h = sight.with_key atom_of is_atom (is_key key.predicate key.args.items) (atom_of key) (key_is key.predicate key.args.items) keys new key refl h

  pub number_then : number_of (with_atom (map atom_of keys) (atom_of key)) (atom_of key) ≡ Some (position_or_len (is_key key.predicate key.args.items) keys)
  number_then = sight.number_with atom_of is_atom (is_key key.predicate key.args.items) (atom_of key) (key_is key.predicate key.args.items) same_atom keys
