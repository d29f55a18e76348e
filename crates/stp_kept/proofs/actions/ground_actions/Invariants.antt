-- The actions so far, and those of what is left, are all.
use Rattle.std.proofs.Common.{◌≡◌, ◌++◌, map, drop, length}
use Rattle.std.specs.List.{All}
use Rattle.stp_task.specs.Actions.{action_of}
use Rattle.stp_task.specs.SoundTask.{IsActionInRange}
use Rattle.stp_ground.specs.Ground.{action_by}
use Rattle.stp_ground.specs.Views.{chosen_view}
use Rattle.stp_ground.specs.Worlds.{problem_in}
use Rattle.stp_kept.proofs.actions.ground_actions.Given as goal

abbrev pub invariant-loop-one : goal.invariant-loop-one
invariant-loop-one l = record {
  actions : map action_of l.actions ++ map (action_by (problem_in l.world) l.table) (map chosen_view (drop l.one-index l.chosen)) ≡ map (action_by (problem_in l.world) l.table) (map chosen_view l.chosen);
  in_range : All (IsActionInRange (length l.table)) l.actions;
}
