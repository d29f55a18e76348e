use Rattle.std.proofs.Common.{◌∙◌, IfOk, subst}
use Rattle.stp_kept.specs.KeptTasks.{LieOn}
use Rattle.stp_kept.proofs.tasks.task_of_instances.Goals as goal

pub returns-clause-lie : goal.returns-clause-lie
returns-clause-lie c =
    subst (λ p. IfOk c.task_of_atoms.result (λ t. LieOn t.grid p.timed)) (c.in_ok-numbered.ensures.same ∙ c.in_ok-have_too_many_nodes.ensures.same) c.task_of_atoms.ensures.lie
