-- The actions at the places so far have been looked at.
use Rattle.std.proofs.Common.{◌≡◌, ℕ, ◌<◌, true, take, length, get_or, All}
use Rattle.stp_cond.specs.Atoms.{has}
use Rattle.stp_task.specs.declared.action.GroundAction.{GroundAction}
use Rattle.stp_task.specs.Actions.{action_of}
use Rattle.stp_task.specs.Certificates.{Pair, IsWithin}
use Rattle.stp_relax.specs.Seen.{AreSeen}
use Rattle.stp_relax.specs.Taken.{Allows, IsGrown, pair_so_far}
use Rattle.stp_relax.proofs.reaching.take_readers.Given as goal

abbrev pub invariant-loop-reader : goal.invariant-loop-reader
invariant-loop-reader l = record {
  grown : IsGrown l.fn.progress l.progress;
  allows : (j : ℕ) (d : GroundAction) → has (take l.reader-index l.readers) j ≡ true → j < length l.actions → Allows (pair_so_far l.fn.progress) (pair_so_far l.progress) (action_of (get_or l.actions j d));
  least : (other : Pair) → IsWithin (pair_so_far l.fn.progress) other → All (λ a. Allows other other (action_of a)) l.actions → IsWithin (pair_so_far l.progress) other;
  seen : AreSeen (pair_so_far l.progress) l.actions l.seen.items;
}
