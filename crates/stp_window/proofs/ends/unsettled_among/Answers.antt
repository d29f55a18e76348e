use Rattle.std.proofs.Common.{[], ◌∷◌, arith}
use Rattle.stp_happen.specs.OwnerViews.{plain_owners}
use Rattle.stp_window.specs.Ends.{numbers_of, unsettled_among}
use Rattle.stp_window.proofs.EndLists.{first_owner}
use Rattle.stp_window.proofs.OwnerLoops.{owner_more}
use Rattle.stp_window.proofs.ends.unsettled_among.Goals as goal

-- the owner at hand is put at the end if it is unsettled
pub loop-owner-preserved : goal.loop-owner-preserved
loop-owner-preserved c =
    let owners = c.args.owners.now in
    let t = c.args.time in
    owner_more (λ o. unsettled_among (o ∷ []) t) (λ os. unsettled_among os t) (first_owner t) owners c.loop-owner.owner-index c.owner-item.result (omega arith) c.owner-item.is
    (numbers_of c.loop-owner.found) (numbers_of c.push_unsettled.new.found) (unsettled_among (plain_owners owners) t) c.in_ok-push_unsettled.ensures c.loop-owner.invariant
