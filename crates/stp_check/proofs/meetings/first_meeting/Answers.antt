use Rattle.stp_window.specs.Sweep.{NoneMeet, HaveMet}
use Rattle.stp_window.specs.Views.{points_of}
use Rattle.stp_check.proofs.Inside.{calm_if_none_meet, windows_are_met}
use Rattle.stp_check.proofs.Moments.{found_none, found_some}
use Rattle.stp_check.proofs.meetings.first_meeting.Goals as goal

pub returns-in_default : goal.returns-in_default
returns-in_default c = calm_if_none_meet (points_of c.args.windows.now) (found_none (NoneMeet (points_of c.args.windows.now)) (λ m. HaveMet c.args.windows.now m.one m.other) c.in_ok-found.field-0 c.in_default.is c.in_ok-found.ensures)

pub returns : goal.returns
returns c =
    c.meeting_of.ensures (points_of c.args.windows.now)
    (windows_are_met c.args.windows.now c.in-Some.found.one c.in-Some.found.other (found_some (NoneMeet (points_of c.args.windows.now)) (λ m. HaveMet c.args.windows.now m.one m.other) c.in_ok-found.field-0 c.in-Some.found c.in-Some.is c.in_ok-found.ensures))
