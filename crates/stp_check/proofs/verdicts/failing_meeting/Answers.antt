use Rattle.std.proofs.Common.{◌≡◌, true}
use Rattle.stp_window.specs.Views.{points_of}
use Rattle.stp_strength.specs.Failures.{all_pairs_pass, stay_calm}
use Rattle.stp_check.specs.Pairs.{AreNotCalm}
use Rattle.stp_check.proofs.Judged.{meeting_in_box_fails}
use Rattle.stp_check.proofs.Moments.{found_some}
use Rattle.stp_check.proofs.verdicts.failing_meeting.Goals as goal

pub returns : goal.returns
returns c =
    let points = points_of c.args.windows.now in
    let met = found_some (all_pairs_pass stay_calm points ≡ true) (λ found. AreNotCalm points found.one.0 found.other.0 found.time) c.in_ok-found.field-0 c.in-Some.found c.in-Some.is c.in_ok-found.ensures in
    meeting_in_box_fails c.args.boxed.now c.args.windows.now c.requires c.in-Some.found.one.0 c.in-Some.found.other.0 c.in-Some.found.time met c.in_ok-together.together c.in_ok-together.ensures.chosen
