use Rattle.std.proofs.Common.{◌++◌, arith, ap, ◌∙◌}
use Rattle.stp_happen.specs.Views.{entries_of}
use Rattle.stp_happen.specs.Boxes.{entries_of_owner, entries_under}
use Rattle.stp_happen.specs.OwnerViews.{plain_owner, plain_owners}
use Rattle.stp_happen.specs.SoundOwned.{IsOwner}
use Rattle.stp_happen.proofs.OwnerSteps.{bounds, entries_more, vector_here, fact_at}
use Rattle.stp_happen.proofs.run_at.entries_at.Goals as goal

-- the owner at hand adds its entries, and its bounds keep them in range
pub loop-owner-preserved : goal.loop-owner-preserved
loop-owner-preserved c =
    let owners = c.args.owners.now in
    let i = c.loop-owner.owner-index in
    let o = c.owner-item.result in
    let ds = c.loop-owner.durations.now in
    let es = entries_of c.loop-owner.entries.items in
    let v = vector_here owners i o (omega arith) c.owner-item.is ds c.loop-owner.invariant.vector in
    record {
      vector = rw c.rest_at-durations.ensures v.1;
      entries = rw c.rest_at-durations.ensures
          (entries_more owners i o (omega arith) c.owner-item.is ds es (entries_of c.push_entries.new.entries.items) (entries_under (plain_owners owners) c.args.vector.now)
          (c.in_ok-push_entries.ensures.ok ∙ ap (λ e. es ++ entries_of_owner (plain_owner o) e) c.end_at.ensures) c.loop-owner.invariant.entries);
      in_range = λ grid n h.
          let b = fact_at (IsOwner grid n) owners i o (omega arith) c.owner-item.is h in
          let w = bounds grid n o b ds v.0 c.end_at.result c.end_at.ensures in
          c.in_ok-push_entries.ensures.in_range grid n b w.start w.within (c.loop-owner.invariant.in_range grid n h);
    }
