use Rattle.std.proofs.Common.{◌≡◌, map, All, ap, subst, sym, ◌∙◌}
use Rattle.std.proofs.Math.Logic.{∥∥₁_map}
use Rattle.stp_cond.specs.Truth.{meaning_of, state_of_row}
use Rattle.stp_happen.specs.Bounds.{MayEndWithin, bounded_owner}
use Rattle.stp_happen.specs.OwnerViews.{plain_owners}
use Rattle.stp_happen.specs.SoundOwned.{IsOwner}
use Rattle.stp_happen.proofs.Bounding.{bounded_is_sound}
use Rattle.stp_happen.proofs.OwnedBoxes.{owned_is_box}
use Rattle.stp_happen.proofs.bounds.with_bounds.Goals as goal

-- each owner may have the bounds, so the box keeps what boxes keep
pub invariant_of-result : goal.invariant_of-result
invariant_of-result c =
    let box = c.args.boxed.now in
    let number = c.args.number in
    let low = c.args.low in
    let high = c.args.high in
    let news = c.in_ok-owners.owners in
    let read = c.as_slice.ensures in
    record {
      sound = ∥∥₁_map box.sound (λ b. bounded_is_sound box.grid number low high box.owners news box.initial c.in_ok-initial.initial box.goal.now b c.requires
          (c.in_ok-owners.ensures.same ∙ ap (λ os. map (bounded_owner number low high) (plain_owners os)) read)
          (λ n h. c.in_ok-owners.ensures.in_range box.grid n (subst (All (IsOwner box.grid n)) (sym read) h) (subst (All (λ o. o.number ≡ number → MayEndWithin box.grid low high o)) (sym read) c.requires))
          c.in_ok-initial.ensures);
    }

-- the bounds are those of the owner with the number alone
pub returns-clause-same : goal.returns-clause-same
returns-clause-same c =
    let box = c.args.boxed.now in
    let number = c.args.number in
    let low = c.args.low in
    let high = c.args.high in
    owned_is_box (plain_owners c.in_ok-owners.owners) (map (bounded_owner number low high) (plain_owners box.owners)) (state_of_row box.initial) (state_of_row c.in_ok-initial.initial) (meaning_of box.goal.now)
    (c.in_ok-owners.ensures.same ∙ ap (λ os. map (bounded_owner number low high) (plain_owners os)) c.as_slice.ensures)
    (ap state_of_row c.in_ok-initial.ensures)
