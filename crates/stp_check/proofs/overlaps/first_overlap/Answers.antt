use Rattle.std.proofs.Common.{sym}
use Rattle.stp_happen.proofs.Members.{member_map}
use Rattle.stp_window.specs.Views.{span_of}
use Rattle.stp_check.proofs.overlaps.first_overlap.Goals as goal

pub returns-in-Some : goal.returns-in-Some
returns-in-Some c = (
  span_of c.one-item.result,
  span_of c.in-Some.other.now,
  member_map span_of c.args.spans.now c.one-item.result (c.loop-one.one-index, c.loop-one-test.true, sym c.one-item.is),
  c.overlap_of.ensures.step,
  c.overlap_of.ensures.time,
  c.in-Some.ensures,
)
