-- What is read where nothing is refused.
use Rattle.std.proofs.Common.{◌≡◌, Bool, true, false, if◌then◌else◌, List, [], ◌∷◌, Option, Some, None, Ok, refl, sym, ◌∙◌}
use Rattle.stp_refusal.specs.declared.offence.Offence.{Offence}
use Rattle.stp_refusal.specs.First.{first_of, first_from, is_before}
use Rattle.stp_refusal.specs.Phases.{chosen, ended, or_else}
use Rattle.stp_refusal.specs.Phases.{unless_refused}

pub accepted_value : {A : Type 0} (value : A) (f : Option Offence) (v : A) → unless_refused value f ≡ Ok v → value ≡ v
accepted_value value None v e = cc
accepted_value value (Some o) v e = cc

pub accepted_none : {A : Type 0} (value : A) (f : Option Offence) (v : A) → unless_refused value f ≡ Ok v → f ≡ None
accepted_none value None v e = refl
accepted_none value (Some o) v e = cc

none_here : (f g : Option Offence) → or_else f g ≡ None → f ≡ None
none_here None g e = refl
none_here (Some o) g e = cc

none_there : (f g : Option Offence) → or_else f g ≡ None → g ≡ None
none_there None g e = e
none_there (Some o) g e = cc

one_stays : (o p : Offence) (os : List Offence) (b : Bool) → first_from (if b then Some o else Some p) os ≡ None → (first_from (Some o) os ≡ None → ⊥) → (first_from (Some p) os ≡ None → ⊥) → ⊥
one_stays o p os true e f g = f e
one_stays o p os false e f g = g e

found_stays : (o : Offence) (os : List Offence) → first_from (Some o) os ≡ None → ⊥
found_stays o [] e = cc
found_stays o (p ∷ os) e = one_stays o p os (is_before o p) e (found_stays o os) (found_stays p os)

no_offences : (os : List Offence) → first_of os ≡ None → os ≡ []
no_offences [] e = refl
no_offences (o ∷ os) e = absurd (found_stays o os e)

-- a phase that ended well found no offence
ended_none : (f : Option Offence) → ended f ≡ Ok tt → f ≡ None
ended_none None e = refl
ended_none (Some o) e = cc

pub found_none : (f : Option Offence) (os : List Offence) → f ≡ first_of os → ended f ≡ Ok tt → os ≡ []
found_none f os h e = no_offences os (sym h ∙ ended_none f e)

-- of phases that chose nothing, the first found nothing
pub first_none : (os : List Offence) (ps : List (List Offence)) → chosen (os ∷ ps) ≡ None → os ≡ []
first_none os ps e = no_offences os (none_here (first_of os) (chosen ps) e)

pub rest_none : (os : List Offence) (ps : List (List Offence)) → chosen (os ∷ ps) ≡ None → chosen ps ≡ None
rest_none os ps e = none_there (first_of os) (chosen ps) e
