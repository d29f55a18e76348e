-- The events so far are allowed.
use Rattle.std.proofs.Common.{take, All}
use Rattle.stp_task.specs.Certificates.{Pair, IsAllowed, IsWithin}
use Rattle.stp_task.specs.Tasks.{timed_event_of}
use Rattle.stp_relax.specs.Taken.{IsGrown, pair_so_far}
use Rattle.stp_relax.proofs.reaching.admit_all.Given as goal

abbrev pub invariant-loop-timed_event : goal.invariant-loop-timed_event
invariant-loop-timed_event l = record {
  grown : IsGrown l.fn.progress l.progress;
  allowed : All (λ t. IsAllowed (pair_so_far l.progress) (timed_event_of t).event) (take l.timed_event-index l.timed);
  least : (other : Pair) → IsWithin (pair_so_far l.fn.progress) other → All (λ t. IsAllowed other (timed_event_of t).event) l.timed → IsWithin (pair_so_far l.progress) other;
}
