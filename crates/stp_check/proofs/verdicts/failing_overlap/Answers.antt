use Rattle.stp_check.proofs.Judged.{overlap_in_box_fails}
use Rattle.stp_check.proofs.verdicts.failing_overlap.Goals as goal

pub returns : goal.returns
returns c =
    overlap_in_box_fails c.args.boxed.now c.args.spans.now c.requires c.in-Some.found.step.0 c.in-Some.found.time c.in-Some.ensures c.in_ok-lasting.lasting c.in_ok-lasting.ensures.chosen
