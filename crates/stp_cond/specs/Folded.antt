-- What is left of a formula once some of its atoms are known.
use Rattle.std.specs.Prelude.{◌≡◌, ℕ, Bool, true, false, not, if◌then◌else◌, List, [], ◌∷◌, filter, slice_index_or}
use Rattle.std.specs.List.{list_any}
use Rattle.stp_cond.specs.declared.known.Three.{Three}
use Rattle.stp_cond.specs.declared.known.Three.TheVariants.{Yes, No, Unknown}
use Rattle.stp_cond.specs.Formulas.{Formula, Formulas, Always, Never, Atomic, Negation, Conjunction, Disjunction, NoMore, More, formulas_of}

-- of a row of answers by atom number; an atom past its end is unknown
abbrev pub known_of : List Three → ℕ → Three
known_of row atom = slice_index_or row atom Unknown

abbrev pub is_always : Formula → Bool
is_always Always = true
is_always f = false

abbrev pub is_never : Formula → Bool
is_never Never = true
is_never f = false

-- an atom that is known is true or false
abbrev pub folded_atom : Three → ℕ → Formula
folded_atom Yes atom = Always
folded_atom No atom = Never
folded_atom Unknown atom = Atomic atom

abbrev pub folded_not : Formula → Formula
folded_not Always = Never
folded_not Never = Always
folded_not f = Negation f

-- all members in one formula, where one alone stands for itself
abbrev pub together : Formula → (Formulas → Formula) → List Formula → Formula
together none all [] = none
together none all (f ∷ []) = f
together none all (f ∷ g ∷ fs) = all (formulas_of (f ∷ g ∷ fs))

-- a conjunction: false where a member is false, and else without its true members
abbrev pub folded_and : List Formula → Formula
folded_and fs = if list_any is_never fs then Never else together Always Conjunction (filter (λ f. not (is_always f)) fs)

-- a disjunction: true where a member is true, and else without its false members
abbrev pub folded_or : List Formula → Formula
folded_or fs = if list_any is_always fs then Always else together Never Disjunction (filter (λ f. not (is_never f)) fs)

-- from the leaves up
abbrev mutual
  pub folded : (ℕ → Three) → Formula → Formula
  folded known Always = Always
  folded known Never = Never
  folded known (Atomic atom) = folded_atom (known atom) atom
  folded known (Negation part) = folded_not (folded known part)
  folded known (Conjunction parts) = folded_and (folded_all known parts)
  folded known (Disjunction parts) = folded_or (folded_all known parts)

  pub folded_all : (ℕ → Three) → Formulas → List Formula
  folded_all known NoMore = []
  folded_all known (More part parts) = folded known part ∷ folded_all known parts

-- whether a truth value is what is known
abbrev pub Fits : Three → Bool → Type 0
Fits Yes value = value ≡ true
Fits No value = value ≡ false
Fits Unknown value = Unit {0}

-- a state agrees with all that is known
abbrev pub Agrees : (ℕ → Three) → (ℕ → Bool) → Type 0
Agrees known state = (atom : ℕ) → Fits (known atom) (state atom)
