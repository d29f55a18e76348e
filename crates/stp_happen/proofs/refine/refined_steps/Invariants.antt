use Rattle.std.proofs.Common.{◌≡◌, ℕ, ◌*◌, ◌++◌, drop, map, All}
use Rattle.stp_happen.specs.SoundBox.{IsBoxStep}
use Rattle.stp_happen.specs.Owners.{finer_step}
use Rattle.stp_happen.specs.StepViews.{steps_of}
use Rattle.stp_happen.proofs.refine.refined_steps.Given as goal

abbrev pub invariant-loop-step : goal.invariant-loop-step
invariant-loop-step l = record {
  same : steps_of l.refined ++ map (finer_step l.factor) (steps_of (drop l.step-index l.steps)) ≡ map (finer_step l.factor) (steps_of l.steps);
  in_range : (grid n : ℕ) → All (IsBoxStep grid n) l.steps → All (IsBoxStep (grid * l.factor) n) l.refined;
}
