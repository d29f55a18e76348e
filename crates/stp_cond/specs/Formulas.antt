-- Formulas without pointers: their truth, and their atoms.
use Rattle.std.specs.Prelude.{ℕ, Bool, true, false, not, ◌&&◌, ◌||◌, List, [], ◌∷◌, ◌++◌}
use Rattle.stp_cond.specs.declared.cond.Cond.{Cond}
use Rattle.stp_cond.specs.declared.cond.Cond.TheOpen.{Cond-F}
use Rattle.stp_cond.specs.declared.cond.Cond.TheFolds.{fold-Cond}

mutual
  pub data Formula : Type 0 where
    Always : Formula
    Never : Formula
    Atomic : (atom : ℕ) → Formula
    Negation : (part : Formula) → Formula
    Conjunction : (parts : Formulas) → Formula
    Disjunction : (parts : Formulas) → Formula

  pub data Formulas : Type 0 where
    NoMore : Formulas
    More : (first : Formula) → (rest : Formulas) → Formulas

abbrev pub formulas_of : List Formula → Formulas
formulas_of [] = NoMore
formulas_of (f ∷ fs) = More f (formulas_of fs)

abbrev pub view_step : Cond-F Formula → Formula
view_step Cond-F.True = Always
view_step Cond-F.False = Never
view_step (Cond-F.Atom atom) = Atomic atom.0
view_step (Cond-F.Not part) = Negation part.now
view_step (Cond-F.And parts) = Conjunction (formulas_of parts.now)
view_step (Cond-F.Or parts) = Disjunction (formulas_of parts.now)

-- what a condition in an arena stands for
abbrev pub view : Cond → Formula
view = fold-Cond Formula view_step

-- the usual truth of a formula in a state
abbrev mutual
  pub holds_in : (ℕ → Bool) → Formula → Bool
  holds_in state Always = true
  holds_in state Never = false
  holds_in state (Atomic atom) = state atom
  holds_in state (Negation part) = not (holds_in state part)
  holds_in state (Conjunction parts) = all_hold state parts
  holds_in state (Disjunction parts) = some_holds state parts

  pub all_hold : (ℕ → Bool) → Formulas → Bool
  all_hold state NoMore = true
  all_hold state (More part parts) = holds_in state part && all_hold state parts

  pub some_holds : (ℕ → Bool) → Formulas → Bool
  some_holds state NoMore = false
  some_holds state (More part parts) = holds_in state part || some_holds state parts

-- the atoms of a formula from left to right, with repeats
abbrev mutual
  pub atoms_in : Formula → List ℕ
  atoms_in Always = []
  atoms_in Never = []
  atoms_in (Atomic atom) = atom ∷ []
  atoms_in (Negation part) = atoms_in part
  atoms_in (Conjunction parts) = atoms_in_all parts
  atoms_in (Disjunction parts) = atoms_in_all parts

  pub atoms_in_all : Formulas → List ℕ
  atoms_in_all NoMore = []
  atoms_in_all (More part parts) = atoms_in part ++ atoms_in_all parts
