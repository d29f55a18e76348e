-- The steps so far in their places, and then those that are left, are all steps.
use Rattle.std.proofs.Common.{◌≡◌, length}
use Rattle.stp_ground.specs.Worlds.{problem_in}
use Rattle.stp_exec.proofs.PlacedSteps.{IsPlacedSoFar}
use Rattle.stp_exec.proofs.placing.place.Given as goal

abbrev pub invariant-loop-index : goal.invariant-loop-index
invariant-loop-index l = record {
  placed : IsPlacedSoFar (problem_in l.fn.world) l.plan.steps l.index l.placed;
  count : length l.placed ≡ l.index;
  same : problem_in l.world ≡ problem_in l.fn.world;
}
