use Rattle.std.proofs.Common.{refl, arith}
use Rattle.stp_happen.specs.SoundOwned.{IsOwner}
use Rattle.stp_happen.specs.OwnerViews.{plain_owners}
use Rattle.stp_happen.proofs.OwnerSteps.{fact_at}
use Rattle.stp_window.specs.OwnerWindows.{points_of_owner, points_of_owners}
use Rattle.stp_window.specs.Views.{points_of}
use Rattle.stp_window.proofs.OwnerLoops.{owner_more}
use Rattle.stp_window.proofs.windows.windows_of.Goals as goal

-- the owner at hand adds what it has
pub loop-owner-preserved : goal.loop-owner-preserved
loop-owner-preserved c =
    let owners = c.args.owners.now in
    let i = c.loop-owner.owner-index in
    let o = c.owner-item.result in
    record {
      points = owner_more points_of_owner points_of_owners (λ x xs. refl) owners i o (omega arith) c.owner-item.is (points_of c.loop-owner.windows.items) (points_of c.push_windows.new.windows.items) (points_of_owners (plain_owners owners)) c.in_ok-push_windows.ensures.ok c.loop-owner.invariant.points;
      in_range = λ grid n h. c.in_ok-push_windows.ensures.in_range grid n (fact_at (IsOwner grid n) owners i o (omega arith) c.owner-item.is h) (c.loop-owner.invariant.in_range grid n h);
    }
