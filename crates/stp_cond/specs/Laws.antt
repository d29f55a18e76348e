-- Laws about formulas and the conditions of events.
use Rattle.std.specs.Prelude.{◌≡◌, ℕ, ◌<◌, Bool, true, false, not, List, length, map, slice_index}
use Rattle.std.specs.List.{list_all}
use Rattle.stp_cond.specs.declared.cond.Cond.{Cond}
use Rattle.stp_cond.specs.declared.event.Event.{Event}
use Rattle.stp_cond.specs.declared.known.Three.{Three}
use Rattle.stp_cond.specs.Atoms.{ReadsAlone, has, set_of}
use Rattle.stp_cond.specs.Events.{event_of}
use Rattle.stp_cond.specs.Truth.{truth, reads_only}
use Rattle.stp_cond.specs.Formulas.{Formula, Negation, view, holds_in, atoms_in}
use Rattle.stp_cond.specs.Folded.{Agrees, folded}
use Rattle.stp_cond.specs.Substituted.{image_of, substituted}

-- the truth of a formula depends only on the atoms that it reads
abbrev pub TruthReadsItsAtoms : Type 0
TruthReadsItsAtoms = (these s t : ℕ → Bool) (cond : Cond) → reads_only these cond ≡ true → ((a : ℕ) → these a ≡ true → s a ≡ t a) → truth s cond ≡ truth t cond

-- the condition of an event in an arena depends only on the atoms that it reads
abbrev pub EventsReadAlone : Type 0
EventsReadAlone = (e : Event) → ReadsAlone (event_of e)

-- the truth of a condition in an arena is that of what it stands for
abbrev pub TruthIsOfShape : Type 0
TruthIsOfShape = (state : ℕ → Bool) (cond : Cond) → truth state cond ≡ holds_in state (view cond)

-- and the atoms that it reads are those of what it stands for
abbrev pub ReadsAreOfShape : Type 0
ReadsAreOfShape = (these : ℕ → Bool) (cond : Cond) → reads_only these cond ≡ list_all these (atoms_in (view cond))

-- a formula holds alike in two states that agree on its atoms
abbrev pub AtomsDecideTruth : Type 0
AtomsDecideTruth = (s t : ℕ → Bool) (f : Formula) → ((a : ℕ) → has (atoms_in f) a ≡ true → s a ≡ t a) → holds_in s f ≡ holds_in t f

-- a negation holds exactly where the formula does not
abbrev pub NegationTurnsTruth : Type 0
NegationTurnsTruth = (state : ℕ → Bool) (f : Formula) → holds_in state (Negation f) ≡ not (holds_in state f)

-- in each state that agrees with what is known, the folded formula holds exactly where the formula does
abbrev pub FoldingKeepsTruth : Type 0
FoldingKeepsTruth = (known : ℕ → Three) (state : ℕ → Bool) (f : Formula) → Agrees known state → holds_in state (folded known f) ≡ holds_in state f

-- the atoms of the folded formula are among those of the formula
abbrev pub FoldingKeepsAtoms : Type 0
FoldingKeepsAtoms = (known : ℕ → Three) (these : ℕ → Bool) (f : Formula) → list_all these (atoms_in f) ≡ true → list_all these (atoms_in (folded known f)) ≡ true

-- with other atoms a formula holds exactly where it held in the state that takes the value of each atom from its image
abbrev pub SubstitutionKeepsTruth : Type 0
SubstitutionKeepsTruth = (image : ℕ → ℕ) (state : ℕ → Bool) (f : Formula) → holds_in state (substituted image f) ≡ holds_in (λ atom. state (image atom)) f

-- its atoms are the images of those of the formula
abbrev pub SubstitutionMapsAtoms : Type 0
SubstitutionMapsAtoms = (image : ℕ → ℕ) (f : Formula) → atoms_in (substituted image f) ≡ map image (atoms_in f)

-- the image of an atom of the one list is that at its place in the other
abbrev pub ImageIsAtItsPlace : Type 0
ImageIsAtItsPlace = (from to : List ℕ) (i : ℕ) → set_of from ≡ from → length from ≡ length to → i < length from → image_of from to (slice_index from i) ≡ slice_index to i

-- and every other atom is its own
abbrev pub OtherAtomsStay : Type 0
OtherAtomsStay = (from to : List ℕ) (atom : ℕ) → has from atom ≡ false → image_of from to atom ≡ atom
