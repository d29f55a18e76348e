-- One more owner of a box: its windows and its span.
use Rattle.std.proofs.Common.{◌≡◌, ℕ, ◌+◌, ◌<◌, List, ◌∷◌, ◌++◌, drop, length, get_or, ap, sym, ◌∙◌, append_assoc}
use Rattle.stp_happen.specs.declared.owners.Owner.{Owner}
use Rattle.stp_happen.specs.Boxes.{PlainOwner}
use Rattle.stp_happen.specs.OwnerViews.{plain_owner, plain_owners}
use Rattle.stp_happen.proofs.OwnerSteps.{owner_here}

-- a list that is made of owners one after another, with what one more of them adds
pub owner_more : {X : Type 0} (one : PlainOwner → List X) (all : List PlainOwner → List X) → ((o : PlainOwner) (os : List PlainOwner) → all (o ∷ os) ≡ one o ++ all os) →
    (owners : List Owner) (i : ℕ) (o : Owner) → i < length owners → o ≡ get_or owners i o → (done new whole : List X) →
    new ≡ done ++ one (plain_owner o) → done ++ all (plain_owners (drop i owners)) ≡ whole → new ++ all (plain_owners (drop (i + 1) owners)) ≡ whole
owner_more one all splits owners i o l e done new whole more so_far =
    let rest = plain_owners (drop (i + 1) owners) in
    ap (λ xs. xs ++ all rest) more
    ∙ (append_assoc done (one (plain_owner o)) (all rest)
    ∙ (ap (λ xs. done ++ xs) (sym (splits (plain_owner o) rest)) ∙ (ap (λ os. done ++ all os) (sym (owner_here owners i o l e)) ∙ so_far)))
