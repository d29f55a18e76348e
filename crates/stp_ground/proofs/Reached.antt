-- The atoms of conditions by numbers: they are read, and their numbers are those of the table.
use Rattle.std.proofs.Common.{◌≡◌, ℕ, ◌<◌, Bool, true, false, nat_lt, if◌then◌else◌, List, [], ◌∷◌, ◌++◌, length, Option, Some, None, refl, ap, ap₂, sym, ◌∙◌, All}
use Rattle.std.specs.List.{list_all, cons_option}
use Rattle.std.proofs.lemmas.Bool.{and_from, lt-ltb}
use Rattle.std.proofs.lemmas.List.Elements.{filter_map-append}
use Rattle.std.proofs.lemmas.List.Quantifiers.{position-Some}
use Rattle.stp_base.specs.declared.ids.AtomId.{AtomId}
use Rattle.stp_tables.specs.Atoms.{Atom, is_atom, number_of}
use Rattle.stp_cond.specs.declared.cond.Cond.{Cond}
use Rattle.stp_cond.specs.declared.known.Three.TheVariants.{Unknown}
use Rattle.stp_cond.specs.Atoms.{has, set_of, without}
use Rattle.stp_cond.specs.Formulas.{atoms_in, atoms_in_all, view}
use Rattle.stp_cond.specs.Truth.{is_below, reads_only}
use Rattle.stp_cond.specs.Views.{atoms_of}
use Rattle.stp_cond.proofs.EventLists.{All_from_below, all_in_set}
use Rattle.stp_cond.proofs.Meaning.{folding_keeps_atoms}
use Rattle.stp_cond.proofs.Rising.{all_filter, all_set}
use Rattle.stp_cond.proofs.Shapes.{reads_are_of_shape}
use Rattle.stp_instance.specs.Expanded.{Claim, Claims, Stated, Alike, Denied, AllOf, AnyOf, NoClaims, Also}
use Rattle.stp_instance.specs.Numbered.{by_number, constant, fluent_atoms, fluent_atoms_of_all, folded_ground, numbered, numbered_all, numbers_in}

-- ---- the atoms of a condition by numbers

module _ (fluent : ℕ → Bool) (is_true : Atom → Bool) (table : List Atom) where
  constant_has_none : (b : Bool) → atoms_in (constant b) ≡ []
  constant_has_none true = refl
  constant_has_none false = refl

  atom_is : (is_fluent : Bool) (atom : Atom) (found : Option ℕ) → number_of table atom ≡ found → atoms_in (if is_fluent then by_number found else constant (is_true atom)) ≡ numbers_in table (if is_fluent then atom ∷ [] else [])
  atom_is true atom None e = ap (λ o. cons_option o []) (sym e)
  atom_is true atom (Some number) e = ap (λ o. cons_option o []) (sym e)
  atom_is false atom found e = constant_has_none (is_true atom)

  mutual
    pub atoms_are : (claim : Claim) → atoms_in (numbered fluent is_true table claim) ≡ numbers_in table (fluent_atoms fluent claim)
    atoms_are (Stated atom) = atom_is (fluent atom.predicate) atom (number_of table atom) refl
    atoms_are (Alike one other) = constant_has_none _
    atoms_are (Denied inner) = atoms_are inner
    atoms_are (AllOf members) = all_are members
    atoms_are (AnyOf members) = all_are members

    all_are : (members : Claims) → atoms_in_all (numbered_all fluent is_true table members) ≡ numbers_in table (fluent_atoms_of_all fluent members)
    all_are NoClaims = refl
    all_are (Also first rest) =
        ap₂ (λ a b. a ++ b) (atoms_are first) (all_are rest)
        ∙ sym (filter_map-append (number_of table) (fluent_atoms fluent first) (fluent_atoms_of_all fluent rest))

  module _ (claim : Claim) (cond : Cond) (left : view cond ≡ folded_ground fluent is_true table claim) where
    within : (these : ℕ → Bool) → list_all these (numbers_in table (fluent_atoms fluent claim)) ≡ true → reads_only these cond ≡ true
    within these h =
        reads_are_of_shape these cond
        ∙ ap (λ f. list_all these (atoms_in f)) left
        ∙ folding_keeps_atoms (λ atom. Unknown) these (numbered fluent is_true table claim) (ap (list_all these) (atoms_are claim) ∙ h)

    -- each atom that is left is read
    pub left_is_read : (reads : List AtomId) → atoms_of reads ≡ set_of (numbers_in table (fluent_atoms fluent claim)) → reads_only (has (atoms_of reads)) cond ≡ true
    left_is_read reads e = within (has (atoms_of reads)) (ap (λ l. list_all (has l) (numbers_in table (fluent_atoms fluent claim))) e ∙ all_in_set (numbers_in table (fluent_atoms fluent claim)))

-- ---- numbers of a table

module _ (table : List Atom) where
  abbrev below : ℕ → Bool
  below a = nat_lt a (length table)

  number_below : (atom : Atom) (rest : List ℕ) (found : Option ℕ) → number_of table atom ≡ found → list_all below rest ≡ true → list_all below (cons_option found rest) ≡ true
  number_below atom rest None e h = h
  number_below atom rest (Some number) e h =
      and_from (below number) (list_all below rest) (lt-ltb number (length table) (position-Some (is_atom atom) table number (record { predicate = 0; args = [] }) e).0) h

  pub numbers_below : (atoms : List Atom) → list_all (λ a. nat_lt a (length table)) (numbers_in table atoms) ≡ true
  numbers_below [] = refl
  numbers_below (atom ∷ rest) = number_below atom (numbers_in table rest) (number_of table atom) refl (numbers_below rest)

  pub left_below : (fluent : ℕ → Bool) (is_true : Atom → Bool) (claim : Claim) (cond : Cond) → view cond ≡ folded_ground fluent is_true table claim → is_below (length table) cond ≡ true
  left_below fluent is_true claim cond left = within fluent is_true table claim cond left (λ a. nat_lt a (length table)) (numbers_below (fluent_atoms fluent claim))

  -- the numbers in a set of such
  pub set_below : (atoms : List Atom) (numbers : List AtomId) → atoms_of numbers ≡ set_of (numbers_in table atoms) → All (λ a. a.0 < length table) numbers
  set_below atoms numbers e = All_from_below (length table) numbers (ap (list_all below) e ∙ all_set below (numbers_in table atoms) ∙ numbers_below atoms)

  pub rest_below : (atoms : List Atom) (other : List ℕ) (numbers : List AtomId) → atoms_of numbers ≡ set_of (without (numbers_in table atoms) other) → All (λ a. a.0 < length table) numbers
  rest_below atoms other numbers e =
      All_from_below (length table) numbers
      (ap (list_all below) e ∙ all_set below (without (numbers_in table atoms) other) ∙ all_filter _ below (numbers_in table atoms) (numbers_below atoms))
