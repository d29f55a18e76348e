-- What is known to be possible on the way to the least closed pair.
use Rattle.std.specs.Prelude.{◌≡◌, ℕ, ◌<◌, true, not, ◌&&◌, ◌||◌, List, length, All, slice_index_or}
use Rattle.stp_cond.specs.Atoms.{has}
use Rattle.stp_cond.specs.Truth.{state_of_row}
use Rattle.stp_task.specs.declared.action.GroundAction.{GroundAction}
use Rattle.stp_task.specs.declared.task.TimedEvent.{TimedEvent}
use Rattle.stp_task.specs.Actions.{action_of}
use Rattle.stp_task.specs.Certificates.{Pair, IsAllowed, IsClosed, IsWithin}
use Rattle.stp_task.specs.Tasks.{PlainTask, timed_event_of}
use Rattle.stp_relax.specs.declared.progress.Progress.{Progress}
use Rattle.stp_relax.specs.Literals.{pair_in}
use Rattle.stp_relax.specs.Taken.{Allows, IsGrown, IsOfSize, is_noted, pair_so_far}

-- these events of the environment are allowed, and no more is possible than where they are
pub record AreAdmitted (timed : List TimedEvent) (q r : Progress) : Type 0 where
  pub grown : IsGrown q r
  pub allowed : All (λ t. IsAllowed (pair_so_far r) (timed_event_of t).event) timed
  pub least : (other : Pair) → IsWithin (pair_so_far q) other → All (λ t. IsAllowed other (timed_event_of t).event) timed → IsWithin (pair_so_far r) other

-- the possible events of these actions are allowed, and no more is possible than where they are
pub record AreTaken (actions : List GroundAction) (q r : Progress) : Type 0 where
  pub grown : IsGrown q r
  pub allows : All (λ a. Allows (pair_so_far q) (pair_so_far r) (action_of a)) actions
  pub least : (other : Pair) → IsWithin (pair_so_far q) other → All (λ a. Allows other other (action_of a)) actions → IsWithin (pair_so_far r) other

-- all that is possible at first is so, and what the events of the environment make possible, and no more than in each
-- closed pair
pub record HasBegun (task : PlainTask) (q : Progress) : Type 0 where
  pub size : IsOfSize (length task.initial) q
  pub first : IsWithin (pair_in task.initial task.initial) (pair_so_far q)
  pub timed : All (λ t. IsAllowed (pair_so_far q) t.event) task.timed
  pub least : (other : Pair) → IsClosed task other → IsWithin (pair_so_far q) other

-- and each possible event of an action is allowed
pub record IsReached (task : PlainTask) (q : Progress) : Type 0 where
  pub begun : HasBegun task q
  pub allows : All (λ action. Allows (pair_so_far q) (pair_so_far q) action) task.actions

-- the possible events of the action at a place are allowed, and no more is possible than where those of all actions are
pub record IsTakenAt (actions : List GroundAction) (place : ℕ) (q r : Progress) : Type 0 where
  pub grown : IsGrown q r
  pub allows : (d : GroundAction) → place < length actions → Allows (pair_so_far q) (pair_so_far r) (action_of (slice_index_or actions place d))
  pub least : (other : Pair) → IsWithin (pair_so_far q) other → All (λ a. Allows other other (action_of a)) actions → IsWithin (pair_so_far r) other

-- the possible events of the actions at these places are allowed, and no more is possible than where those of all
-- actions are
pub record AreTakenAt (actions : List GroundAction) (places : List ℕ) (q r : Progress) : Type 0 where
  pub grown : IsGrown q r
  pub allows : (j : ℕ) (d : GroundAction) → has places j ≡ true → j < length actions → Allows (pair_so_far q) (pair_so_far r) (action_of (slice_index_or actions j d))
  pub least : (other : Pair) → IsWithin (pair_so_far q) other → All (λ a. Allows other other (action_of a)) actions → IsWithin (pair_so_far r) other

-- what is possible, but for the atoms that are noted
abbrev pub pair_seen : Progress → Pair
pair_seen q = record { may = λ a. not (is_noted q a) && state_of_row q.may a; always = λ a. is_noted q a || state_of_row q.always a }
