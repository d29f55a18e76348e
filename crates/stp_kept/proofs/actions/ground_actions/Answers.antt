use Rattle.std.proofs.Common.{map, length, arith}
use Rattle.stp_task.specs.Actions.{action_of}
use Rattle.stp_task.specs.SoundTask.{IsActionInRange}
use Rattle.stp_ground.specs.Ground.{action_by}
use Rattle.stp_ground.specs.Views.{chosen_view}
use Rattle.stp_ground.specs.Worlds.{problem_in}
use Rattle.stp_kept.proofs.NumberedInstances.{all_with, made_more}
use Rattle.stp_kept.proofs.actions.ground_actions.Goals as goal

pub loop-one-preserved : goal.loop-one-preserved
loop-one-preserved c =
    let make = action_by (problem_in c.args.world.now) c.args.table.now in
    record {
      actions = made_more action_of make chosen_view c.args.chosen.now c.loop-one.one-index c.one-item.result c.loop-one.actions c.push.new.self c.in_ok-action.action (map make (map chosen_view c.args.chosen.now)) (omega arith) c.one-item.is c.in_ok-action.ensures.action c.in_ok-push.ensures.ok c.loop-one.invariant.actions;
      in_range = all_with (IsActionInRange (length c.args.table.now)) c.loop-one.actions c.push.new.self c.in_ok-action.action c.in_ok-push.ensures.ok c.loop-one.invariant.in_range c.in_ok-action.ensures.in_range;
    }
