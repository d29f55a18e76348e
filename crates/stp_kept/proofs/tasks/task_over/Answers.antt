use Rattle.std.proofs.Common.{map, length, ap, ◌∙◌}
use Rattle.std.proofs.lemmas.List.{length-map}
use Rattle.stp_cond.specs.Formulas.{view}
use Rattle.stp_cond.specs.Truth.{is_below}
use Rattle.stp_task.specs.Actions.{action_of}
use Rattle.stp_task.specs.Tasks.{timed_event_of}
use Rattle.stp_ground.specs.Problems.{is_fact}
use Rattle.stp_ground.specs.Views.{chosen_view}
use Rattle.stp_ground.specs.Worlds.{problem_in}
use Rattle.stp_kept.proofs.MadeTasks.{made_of, are_ordered}
use Rattle.stp_kept.proofs.tasks.task_over.Goals as goal

pub invariant_of-result : goal.invariant_of-result
invariant_of-result c =
    let p = c.args.world.now.problem.now in
    record {
      sound = ∣ record {
        each = ap length c.in_ok-initial.ensures ∙ length-map c.args.table (is_fact (problem_in c.args.world.now));
        actions_in_range = c.in_ok-actions.ensures.in_range;
        timed_in_range = c.in_ok-timed.ensures.in_range;
        timed_ordered = are_ordered c.args.table (problem_in c.args.world.now).timed c.in_ok-timed.timed c.in_ok-timed.ensures.events c.requires.fixed p.few_timed.in_order;
        goal_in_range = ap (is_below (length c.args.table)) c.in_ok-goal-2.ensures ∙ c.in_ok-goal.ensures.in_range;
      } ∣₁;
    }

pub returns-clause-task : goal.returns-clause-task
returns-clause-task c =
    made_of (problem_in c.args.world.now) c.args.table c.in_ok-initial.initial (map action_of c.in_ok-actions.actions) (map chosen_view c.args.chosen.now) (map timed_event_of c.in_ok-timed.timed) (view c.in_ok-goal-2.goal.now) c.args.grid
    c.in_ok-initial.ensures c.in_ok-actions.ensures.actions c.requires.all c.in_ok-timed.ensures.events (ap view c.in_ok-goal-2.ensures ∙ c.in_ok-goal.ensures.left) c.requires.grid
