-- The points of the events so far are there.
use Rattle.std.proofs.Common.{◌≡◌, ◌+◌, ◌++◌, List, map, drop, length}
use Rattle.stp_happen.specs.Owners.{PlainBoxStep}
use Rattle.stp_happen.specs.StepViews.{timed_of}
use Rattle.stp_window.specs.Points.{point_at}
use Rattle.stp_window.proofs.NamedPoints.{timed_points}
use Rattle.stp_window.proofs.meetings.push_of_timed.Given as goal

abbrev pub invariant-loop-place : goal.invariant-loop-place
invariant-loop-place l =
    (steps : List PlainBoxStep) → map (point_at steps (timed_of l.timed)) l.points ++ drop l.place (timed_points (length steps + 1) (timed_of l.timed)) ≡ map (point_at steps (timed_of l.timed)) l.fn.points ++ timed_points (length steps + 1) (timed_of l.timed)
