-- No instance so far may last too long.
use Rattle.std.proofs.Common.{◌≡◌, ℕ, ◌<◌, false, get_or}
use Rattle.stp_task.specs.Durations.{plain_duration}
use Rattle.stp_kept.specs.declared.instance.Instance.{Instance}
use Rattle.stp_kept.specs.KeptTasks.{is_long}
use Rattle.stp_kept.proofs.timing.first_too_long.Given as goal

abbrev pub invariant-loop-instance : goal.invariant-loop-instance
invariant-loop-instance l = record {
  number : l.number ≡ l.instance-index;
  before : (k : ℕ) (d : Instance) → k < l.instance-index → is_long (plain_duration (get_or l.instances k d).duration) ≡ false;
}
