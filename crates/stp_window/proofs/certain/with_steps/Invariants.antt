use Rattle.std.proofs.Common.{◌≡◌, ◌+◌, List, ◌++◌, drop}
use Rattle.stp_happen.specs.Owners.{step_owners}
use Rattle.stp_happen.specs.StepViews.{steps_of}
use Rattle.stp_window.specs.Windows.{Point}
use Rattle.stp_window.specs.OwnerWindows.{points_of_owners}
use Rattle.stp_window.specs.LastWrites.{IsLastWrite}
use Rattle.stp_window.proofs.certain.with_steps.Given as goal

abbrev pub invariant-loop-step : goal.invariant-loop-step
invariant-loop-step l =
    (seen : List Point)
    × (seen ++ points_of_owners (step_owners (l.step-index + 1) (steps_of (drop l.step-index l.steps))) ≡ points_of_owners (step_owners 1 (steps_of l.steps)))
    × IsLastWrite seen l.atom.0 l.time l.last
