use Rattle.std.proofs.Common.{◌≡◌, [], ◌∷◌, ◌++◌, map, arith, ap, ◌∙◌}
use Rattle.std.proofs.lemmas.List.{map-append}
use Rattle.std.proofs.lemmas.List.Elements.{All-push}
use Rattle.stp_happen.specs.Bounds.{MayEndWithin, bounded_owner}
use Rattle.stp_happen.specs.OwnerViews.{plain_owner, plain_owners}
use Rattle.stp_happen.specs.SoundOwned.{IsOwner}
use Rattle.stp_happen.proofs.OwnerSteps.{fact_at}
use Rattle.stp_happen.proofs.Refining.{mapped_more}
use Rattle.stp_happen.proofs.bounds.owners_within.Goals as goal

-- the owner at hand gets its bounds, and is put at the end
pub loop-owner-preserved : goal.loop-owner-preserved
loop-owner-preserved c =
    let owners = c.args.owners.now in
    let f = bounded_owner c.args.number c.args.low c.args.high in
    let i = c.loop-owner.owner-index in
    let o = c.owner-item.result in
    let done = c.loop-owner.bounded in
    let new = c.owner_within.result in
    record {
      same = mapped_more plain_owner f owners i o (omega arith) c.owner-item.is (plain_owners done) (plain_owners c.push.new.self) (map f (plain_owners owners))
          (ap plain_owners c.in_ok-push.ensures.ok ∙ (map-append plain_owner done (new ∷ []) ∙ ap (λ t. plain_owners done ++ t ∷ []) c.owner_within.ensures.same)) c.loop-owner.invariant.same;
      in_range = λ grid n h may.
          let b = fact_at (IsOwner grid n) owners i o (omega arith) c.owner-item.is h in
          let m = fact_at (λ o. o.number ≡ c.args.number → MayEndWithin grid c.args.low c.args.high o) owners i o (omega arith) c.owner-item.is may in
          rw c.in_ok-push.ensures.ok (All-push (IsOwner grid n) done new (c.loop-owner.invariant.in_range grid n h may) (c.owner_within.ensures.in_range grid n b m));
    }
