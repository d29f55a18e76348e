-- The steps so far, and then those that are left, are all steps.
use Rattle.std.proofs.Common.{◌≡◌, length, map}
use Rattle.std.specs.List.{All}
use Rattle.stp_ground.specs.Worlds.{problem_in}
use Rattle.stp_happen.specs.SoundBox.{IsBoxStep}
use Rattle.stp_exec.specs.Plans.{step_in}
use Rattle.stp_exec.specs.Views.{plain_placed}
use Rattle.stp_happen.specs.StepViews.{step_of}
use Rattle.stp_exec.proofs.Making.{AreMade}
use Rattle.stp_exec.proofs.steps.box_steps.Given as goal

abbrev pub invariant-loop-step : goal.invariant-loop-step
invariant-loop-step l = record {
  stand : AreMade plain_placed (step_in (problem_in l.world) l.table l.grid (map plain_placed l.placed)) step_of l.steps l.step-index l.placed;
  sound : All (IsBoxStep l.grid (length l.table)) l.steps;
  count : length l.steps ≡ l.step-index;
}
