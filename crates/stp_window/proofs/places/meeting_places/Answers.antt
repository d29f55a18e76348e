use Rattle.std.proofs.Common.{not, ap, ◌∙◌}
use Rattle.stp_window.specs.Sweep.{NoneMeet, HaveMet}
use Rattle.stp_window.specs.Views.{points_of}
use Rattle.stp_window.proofs.Swept.{none_found}
use Rattle.stp_window.proofs.places.meeting_places.Goals as goal

pub returns-then-is_none : goal.returns-then-is_none
returns-then-is_none c = none_found (NoneMeet (points_of c.args.windows.now)) (λ m. HaveMet c.args.windows.now m.one m.other) c.in_ok-meeting_windows.field-0 (c.is_none.ensures ∙ ap not c.if-is_none.true) c.in_ok-meeting_windows.ensures
