-- What holds by all that several items say without an offence.
use Rattle.std.proofs.Common.{◌≡◌, List, [], ◌∷◌, ◌++◌, refl}
use Rattle.stp_refusal.specs.Read.{Read}
use Rattle.stp_refusal.specs.declared.offence.Offence.{Offence}
use Rattle.stp_refusal.specs.Gathering.{all_of, behind_first}

-- ---- no offence in a whole is none in its parts

pub none_first : (xs ys : List Offence) → xs ++ ys ≡ [] → xs ≡ []
none_first [] ys e = refl
none_first (x ∷ xs) ys e = cc

pub none_rest : (xs ys : List Offence) → xs ++ ys ≡ [] → ys ≡ []
none_rest [] ys e = e
none_rest (x ∷ xs) ys e = cc

-- it holds by each that has no offence
abbrev pub AllSay : {A : Type 0} → (A → Type 0) → List (Read A) → Type 0
AllSay P [] = Unit {0}
AllSay P (r ∷ rs) = (r.offences ≡ [] → P r.value) × AllSay P rs

pub all_hold : {A : Type 0} (P : A → Type 0) (join : A → A → A) (none : A) → P none → ((a b : A) → P a → P b → P (join a b)) → (rs : List (Read A)) → AllSay P rs → (all_of join none rs).offences ≡ [] → P (all_of join none rs).value
all_hold P join none by_none by_join [] says e = by_none
all_hold P join none by_none by_join (r ∷ rs) says e =
    by_join r.value (all_of join none rs).value
    (says.0 (none_first r.offences (all_of join none rs).offences e))
    (all_hold P join none by_none by_join rs says.1 (none_rest r.offences (all_of join none rs).offences e))

pub behind_say : {A : Type 0} (P : A → Type 0) (rs : List (Read A)) → AllSay P rs → AllSay P (behind_first rs)
behind_say P [] says = tt
behind_say P (r ∷ rs) says = says.1
