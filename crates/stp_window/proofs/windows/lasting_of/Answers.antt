use Rattle.std.proofs.Common.{refl, arith}
use Rattle.stp_happen.specs.SoundOwned.{IsOwner}
use Rattle.stp_happen.specs.OwnerViews.{plain_owners}
use Rattle.stp_happen.proofs.OwnerSteps.{fact_at}
use Rattle.stp_window.specs.OwnerWindows.{open_spans_of_owner, open_spans_of_owners}
use Rattle.stp_window.specs.Views.{spans_of}
use Rattle.stp_window.proofs.OwnerLoops.{owner_more}
use Rattle.stp_window.proofs.windows.lasting_of.Goals as goal

-- the owner at hand adds what it has
pub loop-owner-preserved : goal.loop-owner-preserved
loop-owner-preserved c =
    let owners = c.args.owners.now in
    let i = c.loop-owner.owner-index in
    let o = c.owner-item.result in
    record {
      spans = owner_more open_spans_of_owner open_spans_of_owners (λ x xs. refl) owners i o (omega arith) c.owner-item.is (spans_of c.loop-owner.lasting.items) (spans_of c.push_lasting.new.lasting.items) (open_spans_of_owners (plain_owners owners)) c.in_ok-push_lasting.ensures.ok c.loop-owner.invariant.spans;
      in_range = λ grid n h. c.in_ok-push_lasting.ensures.in_range grid n (fact_at (IsOwner grid n) owners i o (omega arith) c.owner-item.is h) (c.loop-owner.invariant.in_range grid n h);
    }
