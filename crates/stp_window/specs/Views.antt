-- What windows in an arena, and owners in which something has to hold, stand for.
use Rattle.std.specs.Prelude.{Bool, List, map}
use Rattle.stp_cond.specs.declared.cond.Cond.{Cond}
use Rattle.stp_cond.specs.Truth.{meaning_of, state_of_row}
use Rattle.stp_cond.specs.Events.{event_of}
use Rattle.stp_happen.specs.OwnerViews.{plain_owner}
use Rattle.stp_window.specs.declared.windows.Window.{Window}
use Rattle.stp_window.specs.declared.windows.Lasting.{Lasting}
use Rattle.stp_window.specs.Windows.{Point, OpenSpan, WindowBox}
use Rattle.stp_window.specs.OwnerWindows.{end_point}

abbrev pub point_of : Window → Point
point_of w = record { low = w.low; high = w.high; step = w.step; event = event_of w.event }

abbrev pub points_of : List Window → List Point
points_of windows = map point_of windows

abbrev pub span_of : Lasting → OpenSpan
span_of n = record { from = n.owner.start; end = end_point (plain_owner n.owner); key = n.inside.key; over = meaning_of n.inside.over.now }

abbrev pub spans_of : List Lasting → List OpenSpan
spans_of lasting = map span_of lasting

-- the box that these make
abbrev pub box_of : List Window → List Lasting → List Bool → Cond → WindowBox
box_of windows lasting initial goal = record { points = points_of windows; spans = spans_of lasting; initial = state_of_row initial; goal = meaning_of goal }
