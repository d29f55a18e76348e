-- The atoms of the literals of one kind, one after the other.
use Rattle.std.proofs.Common.{◌≡◌, ℕ, ◌+◌, ◌<◌, ◌≤◌, Bool, true, false, if◌then◌else◌, List, [], ◌∷◌, ◌++◌, length, map, filter, drop, get_or, ap, sym, ◌∙◌, append_assoc}
use Rattle.std.proofs.lemmas.List.{append-nil, drop_more, drop_all}
use Rattle.stp_schema.specs.declared.timed.TimedLiteral.{TimedLiteral}
use Rattle.stp_schema.specs.Timed.{literal_of}
use Rattle.stp_tables.specs.Atoms.{Atom}
use Rattle.stp_ground.specs.Problems.{atom_of_literal, atoms_of_kind, is_kind}

-- the atoms so far, and then those of the literals that are left, are all
abbrev pub AreWritten : Bool → List Atom → ℕ → List TimedLiteral → Type 0
AreWritten adds atoms i literals = atoms ++ atoms_of_kind adds (map literal_of (drop i literals)) ≡ atoms_of_kind adds (map literal_of literals)

module _ (adds : Bool) (atoms : List Atom) (i : ℕ) (d : TimedLiteral) (literals : List TimedLiteral) (h : i < length literals) (so_far : AreWritten adds atoms i literals) where
  abbrev one : TimedLiteral
  one = get_or literals i d

  abbrev rest : List Atom
  rest = atoms_of_kind adds (map literal_of (drop (i + 1) literals))

  split : (kept : Bool) → is_kind adds (literal_of one) ≡ kept → atoms_of_kind adds (map literal_of (drop i literals)) ≡ (if kept then atom_of_literal (literal_of one) ∷ [] else []) ++ rest
  split kept e = ap (λ l. atoms_of_kind adds (map literal_of l)) (drop_more literals i d h) ∙ first kept e
    where
      first : (kept : Bool) → is_kind adds (literal_of one) ≡ kept → atoms_of_kind adds (literal_of one ∷ map literal_of (drop (i + 1) literals)) ≡ (if kept then atom_of_literal (literal_of one) ∷ [] else []) ++ rest
      first true e = ap (λ b. map atom_of_literal (if b then literal_of one ∷ filter (is_kind adds) (map literal_of (drop (i + 1) literals)) else filter (is_kind adds) (map literal_of (drop (i + 1) literals)))) e
      first false e = ap (λ b. map atom_of_literal (if b then literal_of one ∷ filter (is_kind adds) (map literal_of (drop (i + 1) literals)) else filter (is_kind adds) (map literal_of (drop (i + 1) literals)))) e

  -- a literal of the kind
  pub written_next : (more : List Atom) → is_kind adds (literal_of one) ≡ true → more ≡ atoms ++ atom_of_literal (literal_of one) ∷ [] → AreWritten adds more (i + 1) literals
  written_next more e is =
      ap (λ l. l ++ rest) is
      ∙ append_assoc atoms (atom_of_literal (literal_of one) ∷ []) rest
      ∙ ap (λ l. atoms ++ l) (sym (split true e))
      ∙ so_far

  -- one of the other kind
  pub written_same : is_kind adds (literal_of one) ≡ false → AreWritten adds atoms (i + 1) literals
  written_same e = ap (λ l. atoms ++ l) (sym (split false e)) ∙ so_far

pub written_all : (adds : Bool) (atoms : List Atom) (i : ℕ) (literals : List TimedLiteral) → length literals ≤ i → AreWritten adds atoms i literals → atoms ≡ atoms_of_kind adds (map literal_of literals)
written_all adds atoms i literals h so_far =
    sym (append-nil atoms)
    ∙ ap (λ l. atoms ++ atoms_of_kind adds (map literal_of l)) (sym (drop_all i literals h))
    ∙ so_far
