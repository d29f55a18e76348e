-- Values that are gathered from several items, one after the other.
use Rattle.std.specs.Prelude.{◌≡◌, List, [], ◌∷◌, Option}
use Rattle.stp_refusal.specs.declared.offence.Offence.{Offence}
use Rattle.stp_refusal.specs.First.{first_from}
use Rattle.stp_refusal.specs.Read.{Read, fine, pair_read}

-- what several items say, one after the other
abbrev pub all_of : {A : Type 0} → (A → A → A) → A → List (Read A) → Read A
all_of join none [] = fine none
all_of join none (r ∷ rs) = pair_read join r (all_of join none rs)

-- all but the first
abbrev pub behind_first : {A : Type 0} → List A → List A
behind_first [] = []
behind_first (x ∷ xs) = xs

-- A loop that gathers: what it has, with what the rest says, is what it had at first, with what the whole says.
pub record Gathers {A : Type 0} (join : A → A → A) (old found : Option Offence) (before now : A) (rest whole : Read A) : Type 0 where
  pub first : first_from found rest.offences ≡ first_from old whole.offences
  pub same : join now rest.value ≡ join before whole.value
