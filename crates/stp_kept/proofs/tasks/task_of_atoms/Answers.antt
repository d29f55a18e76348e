use Rattle.std.proofs.Common.{sym, subst}
use Rattle.stp_ground.specs.Worlds.{problem_in}
use Rattle.stp_kept.specs.KeptTasks.{LieOn}
use Rattle.stp_kept.proofs.TaskTimes.{lie_some}
use Rattle.stp_kept.proofs.tasks.task_of_atoms.Goals as goal

pub returns-clause-lie : goal.returns-clause-lie
returns-clause-lie c =
    let events = (problem_in c.args.world.now).timed in
    subst (λ grid. LieOn grid events) (sym c.in_ok-task.ensures.grid) (lie_some events c.in_ok-grid.field-0 c.in-Some-2.grid c.in-Some-2.is c.in_ok-grid.ensures.lie)
