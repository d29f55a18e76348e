-- The first of several offences is the least of them.
use Rattle.std.specs.Prelude.{◌≡◌, ◌≢◌, List, [], ◌⊎◌, true, Some, All, Contains}
use Rattle.stp_refusal.specs.declared.offence.Offence.{Offence}
use Rattle.stp_refusal.specs.First.{first_of, is_before}

-- one of these offences, which is chosen before each other of them
pub record IsLeast (o : Offence) (os : List Offence) : Type 0 where
  pub among : Contains os o
  pub least : All (λ p. is_before o p ≡ true) os

abbrev pub FirstIsLeast : Type 0
FirstIsLeast = (os : List Offence) (o : Offence) → first_of os ≡ Some o → IsLeast o os

-- where there are offences, one of them is chosen
abbrev pub OneIsChosen : Type 0
OneIsChosen = (os : List Offence) → os ≢ [] → (o : Offence) × (first_of os ≡ Some o)
