use Rattle.std.proofs.Common.{◌∙◌, ap}
use Rattle.stp_schema.specs.Timed.{timed_facts_of}
use Rattle.stp_schema.specs.Views.{problem_of}
use Rattle.stp_ground.specs.Marks.{with_events}
use Rattle.stp_ground.proofs.Marking.{all_marked}
use Rattle.stp_ground.proofs.marks.fluents.Goals as goal

pub returns : goal.returns
returns c =
    let p = c.args.problem.now in
    c.in_ok-mark_events.ensures ∙ ap (with_events (timed_facts_of p.timed.now)) c.in_ok-marks.ensures ∙ all_marked (problem_of p)
