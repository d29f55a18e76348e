use Rattle.std.proofs.Common.{sym, ◌∙◌}
use Rattle.stp_happen.proofs.Members.{member_map}
use Rattle.stp_window.specs.Views.{span_of}
use Rattle.stp_check.proofs.overlaps.first_with.Goals as goal

pub returns-then-not-stay_apart : goal.returns-then-not-stay_apart
returns-then-not-stay_apart c = (
  member_map span_of c.args.spans.now c.other-item.result (c.loop-other.other-index, c.loop-other-test.true, sym c.other-item.is),
  sym c.stay_apart.ensures ∙ c.if-not-stay_apart.true,
)
