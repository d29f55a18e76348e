use Rattle.std.proofs.Common.{◌≡◌, ℕ, ◌+◌, ◌++◌, drop, All}
use Rattle.stp_happen.specs.SoundBox.{IsBoxStep}
use Rattle.stp_happen.specs.SoundOwned.{IsOwner}
use Rattle.stp_happen.specs.Owners.{step_owners}
use Rattle.stp_happen.specs.OwnerViews.{plain_owners}
use Rattle.stp_happen.specs.StepViews.{steps_of}
use Rattle.stp_happen.proofs.owning.owners_of_steps.Given as goal

abbrev pub invariant-loop-step : goal.invariant-loop-step
invariant-loop-step l = record {
  number : l.number ≡ l.step-index;
  same : plain_owners l.owners ++ step_owners (l.number + 1) (steps_of (drop l.step-index l.steps)) ≡ step_owners 1 (steps_of l.steps);
  in_range : (grid n : ℕ) → All (IsBoxStep grid n) l.steps → All (IsOwner grid n) l.owners;
}
