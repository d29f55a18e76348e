use Rattle.std.proofs.Common.{map}
use Rattle.stp_ground.specs.Worlds.{problem_in}
use Rattle.stp_exec.specs.Views.{plain_placed}
use Rattle.stp_exec.proofs.Boxing.{plan_numbered}
use Rattle.stp_exec.proofs.numbering.number_plan.Goals as goal

pub returns-clause-atoms : goal.returns-clause-atoms
returns-clause-atoms c =
    plan_numbered (problem_in c.args.world.now) (problem_in c.number_goal.new.world) c.in_ok-number_goal.ensures.same (map plain_placed c.args.placed.now)
    c.new-table.result c.number_initial.new.table c.number_events.new.table c.number_goal.new.table c.number_steps.new.table
    c.new-table.ensures c.in_ok-number_initial.ensures.atoms c.in_ok-number_events.ensures.atoms c.in_ok-number_goal.ensures.atoms c.in_ok-number_steps.ensures
