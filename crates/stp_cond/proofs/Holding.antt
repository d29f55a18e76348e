-- A formula holds alike in two states that agree on its atoms.
use Rattle.std.proofs.Common.{◌≡◌, ℕ, Bool, true, not, ◌&&◌, ◌||◌, ◌==◌, List, [], ◌++◌, refl, ap, ap₂, ◌∙◌, arith}
use Rattle.std.proofs.lemmas.List.Folds.{list_any-append}
use Rattle.stp_cond.specs.Atoms.{has}
use Rattle.stp_cond.specs.Formulas.{Formula, Formulas, Always, Never, Atomic, Negation, Conjunction, Disjunction, NoMore, More, holds_in, all_hold, some_holds, atoms_in, atoms_in_all}
use Rattle.stp_cond.specs.Laws.{AtomsDecideTruth}
use Rattle.stp_cond.proofs.Rising.{has_first}

abbrev Agree : (ℕ → Bool) → (ℕ → Bool) → List ℕ → Type 0
Agree s t atoms = (a : ℕ) → has atoms a ≡ true → s a ≡ t a

first_holds : (b c : Bool) → b ≡ true → (b || c) ≡ true
first_holds b c h = grind arith

second_holds : (b c : Bool) → c ≡ true → (b || c) ≡ true
second_holds b c h = grind arith

on_first : (s t : ℕ → Bool) (xs ys : List ℕ) → Agree s t (xs ++ ys) → Agree s t xs
on_first s t xs ys h a i = h a (list_any-append (λ b. b == a) xs ys ∙ first_holds (has xs a) (has ys a) i)

on_rest : (s t : ℕ → Bool) (xs ys : List ℕ) → Agree s t (xs ++ ys) → Agree s t ys
on_rest s t xs ys h a i = h a (list_any-append (λ b. b == a) xs ys ∙ second_holds (has xs a) (has ys a) i)

mutual
  pub holds_alike : (s t : ℕ → Bool) (f : Formula) → ((a : ℕ) → has (atoms_in f) a ≡ true → s a ≡ t a) → holds_in s f ≡ holds_in t f
  holds_alike s t Always h = refl
  holds_alike s t Never h = refl
  holds_alike s t (Atomic atom) h = h atom (has_first atom [])
  holds_alike s t (Negation f) h = ap not (holds_alike s t f h)
  holds_alike s t (Conjunction fs) h = all_alike s t fs h
  holds_alike s t (Disjunction fs) h = some_alike s t fs h

  all_alike : (s t : ℕ → Bool) (fs : Formulas) → ((a : ℕ) → has (atoms_in_all fs) a ≡ true → s a ≡ t a) → all_hold s fs ≡ all_hold t fs
  all_alike s t NoMore h = refl
  all_alike s t (More f fs) h = ap₂ (λ b c. b && c) (holds_alike s t f (on_first s t (atoms_in f) (atoms_in_all fs) h)) (all_alike s t fs (on_rest s t (atoms_in f) (atoms_in_all fs) h))

  some_alike : (s t : ℕ → Bool) (fs : Formulas) → ((a : ℕ) → has (atoms_in_all fs) a ≡ true → s a ≡ t a) → some_holds s fs ≡ some_holds t fs
  some_alike s t NoMore h = refl
  some_alike s t (More f fs) h = ap₂ (λ b c. b || c) (holds_alike s t f (on_first s t (atoms_in f) (atoms_in_all fs) h)) (some_alike s t fs (on_rest s t (atoms_in f) (atoms_in_all fs) h))

pub atoms_decide_truth : AtomsDecideTruth
atoms_decide_truth s t f h = holds_alike s t f h
