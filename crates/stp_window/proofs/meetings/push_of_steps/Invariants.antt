-- The points of the steps so far are there.
use Rattle.std.proofs.Common.{◌≡◌, ◌+◌, ◌++◌, List, map, drop, Some}
use Rattle.stp_happen.specs.Owners.{PlainBoxTimed, step_owners}
use Rattle.stp_happen.specs.StepViews.{steps_of}
use Rattle.stp_window.specs.OwnerWindows.{points_of_owners}
use Rattle.stp_window.specs.Points.{point_at}
use Rattle.stp_window.proofs.meetings.push_of_steps.Given as goal

abbrev pub invariant-loop-step : goal.invariant-loop-step
invariant-loop-step l = record {
  number : l.number ≡ l.step-index;
  same : (timed : List PlainBoxTimed) → map (point_at (steps_of l.steps) timed) l.points ++ map Some (points_of_owners (step_owners (l.number + 1) (steps_of (drop l.step-index l.steps)))) ≡ map (point_at (steps_of l.steps) timed) l.fn.points ++ map Some (points_of_owners (step_owners 1 (steps_of l.steps)));
}
