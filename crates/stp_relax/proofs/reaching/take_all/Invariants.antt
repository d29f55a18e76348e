-- The actions at the places so far have been looked at.
use Rattle.std.proofs.Common.{ℕ, ◌<◌, length, get_or, All}
use Rattle.stp_task.specs.declared.action.GroundAction.{GroundAction}
use Rattle.stp_task.specs.Actions.{action_of}
use Rattle.stp_task.specs.Certificates.{Pair, IsWithin}
use Rattle.stp_relax.specs.Seen.{AreSeen}
use Rattle.stp_relax.specs.Taken.{Allows, IsGrown, pair_so_far}
use Rattle.stp_relax.proofs.reaching.take_all.Given as goal

abbrev pub invariant-loop-place : goal.invariant-loop-place
invariant-loop-place l = record {
  grown : IsGrown l.fn.progress l.progress;
  allows : (j : ℕ) (d : GroundAction) → j < l.place → j < length l.actions → Allows (pair_so_far l.fn.progress) (pair_so_far l.progress) (action_of (get_or l.actions j d));
  least : (other : Pair) → IsWithin (pair_so_far l.fn.progress) other → All (λ a. Allows other other (action_of a)) l.actions → IsWithin (pair_so_far l.progress) other;
  seen : AreSeen (pair_so_far l.progress) l.actions l.seen.items;
}
