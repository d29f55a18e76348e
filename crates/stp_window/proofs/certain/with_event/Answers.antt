use Rattle.std.proofs.Common.{◌∙◌, sym}
use Rattle.stp_cond.specs.Events.{event_of}
use Rattle.stp_window.proofs.Later.{with_taken, with_kept}
use Rattle.stp_window.proofs.certain.with_event.Goals as goal

pub returns-then-is_last : goal.returns-then-is_last
returns-then-is_last c =
    λ seen p high event so_far.
    with_taken seen c.args.atom.0 c.args.time c.args.end (event_of c.args.event.now) c.args.last p high event so_far (sym c.is_last.ensures ∙ c.if-is_last.true) c.adds-adds.result c.adds-adds.ensures

pub returns-else-is_last : goal.returns-else-is_last
returns-else-is_last c =
    λ seen p high event so_far.
    with_kept seen c.args.atom.0 c.args.time c.args.end (event_of c.args.event.now) c.args.last p high event so_far (sym c.is_last.ensures ∙ c.if-is_last.false)
