-- A pair over one table of atoms, seen from another table.
use Rattle.std.proofs.Common.{◌≡◌, ℕ, ◌==◌, Bool, true, false, not, ◌&&◌, ◌||◌, if◌then◌else◌, List, [], ◌∷◌, Option, Some, None, refl, sym, ap, ap₂, ◌∙◌, true≢false}
use Rattle.std.specs.Prelude.{slice_get}
use Rattle.std.specs.Option.{is_some}
use Rattle.std.specs.List.{list_all}
use Rattle.std.proofs.lemmas.Bool.{and_parts}
use Rattle.std.proofs.lemmas.List.Folds.{list_all-append}
use Rattle.stp_schema.specs.Views.{PlainProblem}
use Rattle.stp_tables.specs.Atoms.{Atom, is_atom, number_of}
use Rattle.stp_tables.proofs.AtomKeys.{atoms_same}
use Rattle.stp_tables.proofs.FirstSight.{found_at}
use Rattle.stp_cond.specs.Formulas.{Formula, Formulas}
use Rattle.stp_task.specs.Certificates.{Pair, may_be, all_may_be, some_may_be}
use Rattle.stp_instance.specs.Expanded.{Claim, Claims, Stated, Alike, Denied, AllOf, AnyOf, NoClaims, Also}
use Rattle.stp_instance.specs.Numbered.{is_in, constant, by_number, fluent_atoms, fluent_atoms_of_all, numbered, numbered_all}
use Rattle.stp_ground.specs.Problems.{is_fact, is_written}
use Rattle.stp_ground.specs.Ground.{left_of}
use Rattle.stp_unreachable.proofs.Folding.{folding_keeps}

-- ---- the pair

-- a value by number, or a first value where there is no number
abbrev pub by_other : (ℕ → Bool) → Bool → Option ℕ → Bool
by_other values first None = first
by_other values first (Some n) = values n

-- the value of an atom: that of its number in a table, or where it has none there the first one
abbrev pub value_at : PlainProblem → List Atom → (ℕ → Bool) → Option Atom → Bool
value_at p table values None = false
value_at p table values (Some atom) = by_other values (is_fact p atom) (number_of table atom)

-- a pair over an old table, by the numbers of a new one
abbrev pub moved : PlainProblem → List Atom → List Atom → Pair → Pair
moved p old new pair = record { may = λ a. value_at p old pair.may (slice_get new a); always = λ a. value_at p old pair.always (slice_get new a) }

pub number_stands : (table : List Atom) (atom : Atom) (n : ℕ) → number_of table atom ≡ Some n → slice_get table n ≡ Some atom
number_stands table atom n e = found_at is_atom atoms_same table atom n e

-- the value of an atom with a number in both tables
pub value_there : (p : PlainProblem) (old new : List Atom) (values : ℕ → Bool) (atom : Atom) (n a : ℕ) → number_of old atom ≡ Some n → number_of new atom ≡ Some a → value_at p old values (slice_get new a) ≡ values n
value_there p old new values atom n a e f =
    ap (value_at p old values) (number_stands new atom a f) ∙ ap (by_other values (is_fact p atom)) e

-- ---- claims

-- whether an atom has a number in both
abbrev pub is_in_both : List Atom → List Atom → Atom → Bool
is_in_both old new atom = is_in old atom && is_in new atom

module _ (p : PlainProblem) (old new : List Atom) (pair : Pair) where
  -- an atom that is fluent has a number in both
  atom_at : (v fluent known : Bool) (atom : Atom) (one other : Option ℕ) → number_of old atom ≡ one → number_of new atom ≡ other → (fluent ≡ true → (is_some one && is_some other) ≡ true) →
      may_be (moved p old new pair) v (if fluent then by_number other else constant known) ≡ may_be pair v (if fluent then by_number one else constant known)
  atom_at true true known atom (Some n) (Some a) e f h = value_there p old new pair.may atom n a e f
  atom_at false true known atom (Some n) (Some a) e f h = ap not (value_there p old new pair.always atom n a e f)
  atom_at v true known atom (Some n) None e f h = absurd (true≢false (sym (h refl)))
  atom_at v true known atom None other e f h = absurd (true≢false (sym (h refl)))
  atom_at true false true atom one other e f h = refl
  atom_at true false false atom one other e f h = refl
  atom_at false false true atom one other e f h = refl
  atom_at false false false atom one other e f h = refl

  constant_at : (v known : Bool) → may_be (moved p old new pair) v (constant known) ≡ may_be pair v (constant known)
  constant_at true true = refl
  constant_at true false = refl
  constant_at false true = refl
  constant_at false false = refl

  fluent_alone : (atom : Atom) (fluent : Bool) → list_all (is_in_both old new) (if fluent then atom ∷ [] else []) ≡ true → fluent ≡ true → is_in_both old new atom ≡ true
  fluent_alone atom true h e = (and_parts (is_in_both old new atom) true h).0
  fluent_alone atom false h e = absurd (true≢false (sym e))

  abbrev numbers : List Atom → Claim → Formula
  numbers table claim = numbered (is_written p) (is_fact p) table claim

  abbrev all_numbers : List Atom → Claims → Formulas
  all_numbers table claims = numbered_all (is_written p) (is_fact p) table claims

  mutual
    claim_moved : (v : Bool) (claim : Claim) → list_all (is_in_both old new) (fluent_atoms (is_written p) claim) ≡ true → may_be (moved p old new pair) v (numbers new claim) ≡ may_be pair v (numbers old claim)
    claim_moved v (Stated atom) h = atom_at v (is_written p atom.predicate) (is_fact p atom) atom (number_of old atom) (number_of new atom) refl refl (fluent_alone atom (is_written p atom.predicate) h)
    claim_moved v (Alike one other) h = constant_at v (one == other)
    claim_moved true (Denied inner) h = claim_moved false inner h
    claim_moved false (Denied inner) h = claim_moved true inner h
    claim_moved true (AllOf members) h = all_moved true members h
    claim_moved false (AllOf members) h = some_moved false members h
    claim_moved true (AnyOf members) h = some_moved true members h
    claim_moved false (AnyOf members) h = all_moved false members h

    all_moved : (v : Bool) (members : Claims) → list_all (is_in_both old new) (fluent_atoms_of_all (is_written p) members) ≡ true → all_may_be (moved p old new pair) v (all_numbers new members) ≡ all_may_be pair v (all_numbers old members)
    all_moved v NoClaims h = refl
    all_moved v (Also first rest) h =
        let parts = and_parts (list_all (is_in_both old new) (fluent_atoms (is_written p) first)) (list_all (is_in_both old new) (fluent_atoms_of_all (is_written p) rest)) (sym (list_all-append (is_in_both old new) (fluent_atoms (is_written p) first) (fluent_atoms_of_all (is_written p) rest)) ∙ h) in
        ap₂ (λ b c. b && c) (claim_moved v first parts.0) (all_moved v rest parts.1)

    some_moved : (v : Bool) (members : Claims) → list_all (is_in_both old new) (fluent_atoms_of_all (is_written p) members) ≡ true → some_may_be (moved p old new pair) v (all_numbers new members) ≡ some_may_be pair v (all_numbers old members)
    some_moved v NoClaims h = refl
    some_moved v (Also first rest) h =
        let parts = and_parts (list_all (is_in_both old new) (fluent_atoms (is_written p) first)) (list_all (is_in_both old new) (fluent_atoms_of_all (is_written p) rest)) (sym (list_all-append (is_in_both old new) (fluent_atoms (is_written p) first) (fluent_atoms_of_all (is_written p) rest)) ∙ h) in
        ap₂ (λ b c. b || c) (claim_moved v first parts.0) (some_moved v rest parts.1)

  -- a condition may be as it may be by the old numbers, where its fluent atoms have numbers in both tables
  pub left_moved : (v : Bool) (claim : Claim) → list_all (is_in_both old new) (fluent_atoms (is_written p) claim) ≡ true → may_be (moved p old new pair) v (left_of p new claim) ≡ may_be pair v (left_of p old claim)
  left_moved v claim h =
      folding_keeps (moved p old new pair) v (numbers new claim)
      ∙ claim_moved v claim h
      ∙ sym (folding_keeps pair v (numbers old claim))
