use Rattle.std.proofs.Common.{◌≡◌, ℕ, ◌*◌, ◌++◌, drop, map, All}
use Rattle.stp_happen.specs.SoundBox.{IsBoxTimed}
use Rattle.stp_happen.specs.Owners.{finer_timed}
use Rattle.stp_happen.specs.StepViews.{timed_of}
use Rattle.stp_happen.proofs.refine.refined_events.Given as goal

abbrev pub invariant-loop-event : goal.invariant-loop-event
invariant-loop-event l = record {
  same : timed_of l.refined ++ map (finer_timed l.factor) (timed_of (drop l.event-index l.timed)) ≡ map (finer_timed l.factor) (timed_of l.timed);
  in_range : (grid n : ℕ) → All (IsBoxTimed grid n) l.timed → All (IsBoxTimed (grid * l.factor) n) l.refined;
}
