-- A condition without pointers.
use Rattle.std.specs.Prelude.{ℕ, List, [], ◌∷◌, map}
use Rattle.stp_schema.specs.declared.lifted.Term.{Term}
use Rattle.stp_schema.specs.declared.lifted.LiftedAtom.{LiftedAtom}
use Rattle.stp_schema.specs.declared.lifted.Lifted.{Lifted}
use Rattle.stp_schema.specs.declared.lifted.Lifted.TheOpen.{Lifted-F}
use Rattle.stp_schema.specs.declared.lifted.Lifted.TheFolds.{fold-Lifted}

mutual
  pub data Formula : Type 0 where
    Atom : (symbol : ℕ) → (terms : List Term) → Formula
    Same : (one other : Term) → Formula
    Not : (inner : Formula) → Formula
    And : (members : Formulas) → Formula
    Or : (members : Formulas) → Formula
    Every : (kinds : List ℕ) → (body : Formula) → Formula
    Any : (kinds : List ℕ) → (body : Formula) → Formula

  pub data Formulas : Type 0 where
    NoMore : Formulas
    More : (first : Formula) → (rest : Formulas) → Formulas

abbrev pub formulas_of : List Formula → Formulas
formulas_of [] = NoMore
formulas_of (f ∷ fs) = More f (formulas_of fs)

abbrev pub formula_step : Lifted-F Formula → Formula
formula_step (Lifted-F.Atom atom) = Atom atom.symbol atom.terms.now
formula_step (Lifted-F.Same one other) = Same one other
formula_step (Lifted-F.Not inner) = Not inner.now
formula_step (Lifted-F.And members) = And (formulas_of members.now)
formula_step (Lifted-F.Or members) = Or (formulas_of members.now)
formula_step (Lifted-F.Every kinds body) = Every kinds.now body.now
formula_step (Lifted-F.Any kinds body) = Any kinds.now body.now

-- what a condition in an arena stands for
abbrev pub formula : Lifted → Formula
formula = fold-Lifted Formula formula_step

-- true, and what stands in the place of what does not match
abbrev pub nothing : Formula
nothing = And NoMore

-- a predicate or a function with its arguments
pub record PlainAtom : Type 0 where
  pub symbol : ℕ
  pub terms : List Term

abbrev pub atom_of : LiftedAtom → PlainAtom
atom_of a = record { symbol = a.symbol; terms = a.terms.now }

abbrev pub atoms_of : List LiftedAtom → List PlainAtom
atoms_of atoms = map atom_of atoms
