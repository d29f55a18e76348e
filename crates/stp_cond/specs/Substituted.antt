-- A formula with other atoms in the places of some.
use Rattle.std.specs.Prelude.{ℕ, ◌==◌, if◌then◌else◌, List, [], ◌∷◌}
use Rattle.stp_cond.specs.Formulas.{Formula, Formulas, Always, Never, Atomic, Negation, Conjunction, Disjunction, NoMore, More}

-- what an atom becomes where each atom of the one list becomes that at its place in the other
abbrev pub image_of : List ℕ → List ℕ → ℕ → ℕ
image_of [] to atom = atom
image_of (f ∷ fs) [] atom = atom
image_of (f ∷ fs) (t ∷ ts) atom = if f == atom then t else image_of fs ts atom

-- the formula with each atom's image in its place
abbrev mutual
  pub substituted : (ℕ → ℕ) → Formula → Formula
  substituted image Always = Always
  substituted image Never = Never
  substituted image (Atomic atom) = Atomic (image atom)
  substituted image (Negation part) = Negation (substituted image part)
  substituted image (Conjunction parts) = Conjunction (substituted_all image parts)
  substituted image (Disjunction parts) = Disjunction (substituted_all image parts)

  pub substituted_all : (ℕ → ℕ) → Formulas → Formulas
  substituted_all image NoMore = NoMore
  substituted_all image (More part parts) = More (substituted image part) (substituted_all image parts)
