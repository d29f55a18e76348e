-- Each action is looked at, and again when one of its atoms is noted.
use Rattle.std.proofs.Common.{◌≡◌, ℕ, ◌<◌, ◌≤◌, List, [], length, All, get_or, sym, ap, ◌∙◌, subst}
use Rattle.stp_cond.specs.Atoms.{has}
use Rattle.std.proofs.lemmas.List.{get_or_past}
use Rattle.stp_happen.proofs.Members.{all_mapped, each_of}
use Rattle.stp_task.specs.declared.action.GroundAction.{GroundAction}
use Rattle.stp_task.specs.declared.task.Task.{Task}
use Rattle.stp_task.specs.Actions.{action_of}
use Rattle.stp_task.specs.Certificates.{Pair, IsWithin}
use Rattle.stp_task.specs.Tasks.{plain_task}
use Rattle.stp_relax.specs.declared.progress.Progress.{Progress}
use Rattle.stp_relax.specs.Reached.{AreTaken, AreTakenAt, HasBegun, IsReached, pair_seen}
use Rattle.stp_relax.specs.Taken.{Allows, IsGrown, IsIdle, IsPopped, pair_so_far}
use Rattle.stp_relax.specs.Watched.{AreWatched, stands_at}
use Rattle.stp_relax.proofs.Closing.{begun_again, begun_more, closed_allows_each}
use Rattle.stp_relax.proofs.Growing.{allows_grow, within_itself, within_more}
use Rattle.stp_relax.proofs.Seeing.{all_seen, looked_at, same_rows, seen_before}
use Rattle.stp_relax.proofs.Takes.{grown_itself}
use Rattle.stp_relax.proofs.Tests.{clash}

-- what is possible without the noted atoms is allowed
pub record IsUnderWay (task : Task) (q : Progress) : Type 0 where
  pub begun : HasBegun (plain_task task) q
  pub allows : All (λ a. Allows (pair_seen q) (pair_so_far q) (action_of a)) task.actions

begun_least : (task : Task) (actions : List GroundAction) (q r : Progress) → actions ≡ task.actions → HasBegun (plain_task task) q → IsGrown q r →
    ((other : Pair) → IsWithin (pair_so_far q) other → All (λ a. Allows other other (action_of a)) actions → IsWithin (pair_so_far r) other) → HasBegun (plain_task task) r
begun_least task actions q r e h g least =
    begun_more (plain_task task) q r h g (λ other c. least other (h.least other c) (subst (All (λ a. Allows other other (action_of a))) (sym e) (closed_allows_each task other c)))

-- all actions have been looked at once
pub under_way : (task : Task) (actions : List GroundAction) (q r : Progress) → actions ≡ task.actions → HasBegun (plain_task task) q → AreTaken actions q r → IsUnderWay task r
under_way task actions q r e h k = record {
  begun = begun_least task actions q r e h k.grown k.least;
  allows = subst (All (λ a. Allows (pair_seen r) (pair_so_far r) (action_of a))) e
      (λ j d l. allows_grow (pair_so_far q) (pair_seen r) (pair_so_far r) (pair_so_far r) (seen_before q r k.grown) (within_itself (pair_so_far r)) (action_of (get_or actions j d)) (k.allows j d l));
}

-- an atom that no action reads
pub goes_on_alone : (task : Task) (readers : List (List ℕ)) (atom : ℕ) (q r : Progress) → IsUnderWay task q → IsPopped q r atom → AreWatched task.actions readers → length readers ≤ atom → IsUnderWay task r
goes_on_alone task readers atom q r h p w past = record {
  begun = begun_again (plain_task task) q r p.may p.always h.begun;
  allows = λ j d l. looked_at atom (get_or task.actions j d) q r r p (grown_itself r) (λ m. absurd (clash (stands_at readers atom j) (w j d atom l m) (ap (λ xs. has xs j) (get_or_past readers atom [] past)))) (h.allows j d l);
}

-- an atom whose readers have been looked at again
pub goes_on : (task : Task) (actions : List GroundAction) (readers : List (List ℕ)) (these : List ℕ) (atom : ℕ) (q r s : Progress) → actions ≡ task.actions → IsUnderWay task q → IsPopped q r atom → AreWatched task.actions readers →
    these ≡ get_or readers atom [] → AreTakenAt actions these r s → IsUnderWay task s
goes_on task actions readers these atom q r s e h p w i k = record {
  begun = begun_least task actions r s e (begun_again (plain_task task) q r p.may p.always h.begun) k.grown k.least;
  allows = λ j d l.
      looked_at atom (get_or task.actions j d) q r s p k.grown
      (λ m. subst (λ xs. Allows (pair_so_far r) (pair_so_far s) (action_of (get_or xs j d))) e (k.allows j d (ap (λ xs. has xs j) i ∙ w j d atom l m) (subst (λ xs. j < length xs) (sym e) l)))
      (h.allows j d l);
}

-- nothing is noted any more
pub all_reached : (task : Task) (q r : Progress) → IsUnderWay task q → IsIdle q r → IsReached (plain_task task) r
all_reached task q r h p =
    let w = within_more (pair_so_far r) (pair_so_far q) (pair_seen q) (same_rows r q (sym p.may) (sym p.always)) (all_seen q p.unnoted) in
    record {
      begun = begun_again (plain_task task) q r p.may p.always h.begun;
      allows = all_mapped action_of (λ action. Allows (pair_so_far r) (pair_so_far r) action) task.actions (λ a i.
          allows_grow (pair_seen q) (pair_so_far r) (pair_so_far q) (pair_so_far r) w (same_rows q r p.may p.always) (action_of a)
          (each_of (λ a. Allows (pair_seen q) (pair_so_far q) (action_of a)) task.actions h.allows a i));
    }
