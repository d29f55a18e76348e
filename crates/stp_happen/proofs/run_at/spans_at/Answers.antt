use Rattle.std.proofs.Common.{◌++◌, arith, ap, ◌∙◌}
use Rattle.stp_happen.specs.Views.{spans_of}
use Rattle.stp_happen.specs.Boxes.{spans_of_owner, spans_under}
use Rattle.stp_happen.specs.OwnerViews.{plain_owner, plain_owners}
use Rattle.stp_happen.specs.SoundOwned.{IsOwner}
use Rattle.stp_happen.proofs.OwnerSteps.{bounds, spans_more, vector_here, fact_at}
use Rattle.stp_happen.proofs.run_at.spans_at.Goals as goal

-- the owner at hand adds its span, and its bounds keep it in range
pub loop-owner-preserved : goal.loop-owner-preserved
loop-owner-preserved c =
    let owners = c.args.owners.now in
    let i = c.loop-owner.owner-index in
    let o = c.owner-item.result in
    let ds = c.loop-owner.durations.now in
    let ss = spans_of c.loop-owner.spans in
    let v = vector_here owners i o (omega arith) c.owner-item.is ds c.loop-owner.invariant.vector in
    record {
      vector = rw c.rest_at-durations.ensures v.1;
      spans = rw c.rest_at-durations.ensures
          (spans_more owners i o (omega arith) c.owner-item.is ds ss (spans_of c.push_spans.new.spans) (spans_under (plain_owners owners) c.args.vector.now)
          (c.in_ok-push_spans.ensures.ok ∙ ap (λ e. ss ++ spans_of_owner (plain_owner o) e) c.end_at.ensures) c.loop-owner.invariant.spans);
      in_range = λ grid n h.
          let b = fact_at (IsOwner grid n) owners i o (omega arith) c.owner-item.is h in
          let w = bounds grid n o b ds v.0 c.end_at.result c.end_at.ensures in
          c.in_ok-push_spans.ensures.in_range grid n b w.up w.within (c.loop-owner.invariant.in_range grid n h);
    }
