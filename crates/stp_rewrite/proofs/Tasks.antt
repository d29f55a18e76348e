-- The atoms of a task are those that it numbers.
use Rattle.std.proofs.Common.{◌≡◌, length, All, sym, subst}
use Rattle.std.proofs.Props.{props}
use Rattle.std.proofs.Math.Logic.{∥∥₁_elim}
use Rattle.stp_cond.specs.Events.{IsEventInRange}
use Rattle.stp_task.specs.declared.task.Task.{Task}
use Rattle.stp_task.specs.SoundTask.{IsActionInRange}

pub each : (task : Task) → length task.initial ≡ length task.atoms
each task = ∥∥₁_elim task.sound (Prim.hlevel props) (λ s. s.each)

pub actions_in_range : (task : Task) → All (IsActionInRange (length task.initial)) task.actions
actions_in_range task = ∥∥₁_elim task.sound (Prim.hlevel props) (λ s. subst (λ n. All (IsActionInRange n) task.actions) (sym s.each) s.actions_in_range)

pub timed_in_range : (task : Task) → All (λ t. IsEventInRange (length task.initial) t.event) task.timed
timed_in_range task = ∥∥₁_elim task.sound (Prim.hlevel props) (λ s. subst (λ n. All (λ t. IsEventInRange n t.event) task.timed) (sym s.each) s.timed_in_range)
