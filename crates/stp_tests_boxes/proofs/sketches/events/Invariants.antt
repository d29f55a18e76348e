use Rattle.std.proofs.Common.{◌≡◌, ◌≤◌, true, length, All}
use Rattle.stp_happen.specs.Owners.{timed_before}
use Rattle.stp_happen.specs.Sound.{is_ascending}
use Rattle.stp_happen.specs.SoundBox.{IsBoxTimed}
use Rattle.stp_happen.specs.StepViews.{timed_of}
use Rattle.stp_tests_boxes.proofs.sketches.events.Given as goal

abbrev pub invariant-loop-happening : goal.invariant-loop-happening
invariant-loop-happening l = record {
  in_range : All (IsBoxTimed 1 3) l.events;
  ordered : is_ascending timed_before (timed_of l.events) ≡ true;
  few : length l.events ≤ l.happening-index;
}
