-- Which pairs of sets of atoms show that the goal of a task cannot be reached.
use Rattle.std.specs.Prelude.{◌≡◌, ℕ, Bool, true, false, not, ◌&&◌, ◌||◌, All, IfSome}
use Rattle.stp_cond.specs.Atoms.{has}
use Rattle.stp_cond.specs.Formulas.{Formula, Formulas, Always, Never, Atomic, Negation, Conjunction, Disjunction, NoMore, More}
use Rattle.stp_cond.specs.Truth.{state_of_row}
use Rattle.stp_task.specs.Actions.{PlainAction, PlainHappening}
use Rattle.stp_task.specs.Tasks.{PlainTask}

-- which atoms may be true, and which are always true
pub record Pair : Type 0 where
  pub may : ℕ → Bool
  pub always : ℕ → Bool

-- Whether a formula may have a truth value. An atom may be true where it is among those that may, and false where it
-- is not among those that always are. Members are judged one by one.
abbrev mutual
  pub may_be : Pair → Bool → Formula → Bool
  may_be p true Always = true
  may_be p false Always = false
  may_be p true Never = false
  may_be p false Never = true
  may_be p true (Atomic atom) = p.may atom
  may_be p false (Atomic atom) = not (p.always atom)
  may_be p true (Negation part) = may_be p false part
  may_be p false (Negation part) = may_be p true part
  may_be p true (Conjunction parts) = all_may_be p true parts
  may_be p false (Conjunction parts) = some_may_be p false parts
  may_be p true (Disjunction parts) = some_may_be p true parts
  may_be p false (Disjunction parts) = all_may_be p false parts

  pub all_may_be : Pair → Bool → Formulas → Bool
  all_may_be p value NoMore = true
  all_may_be p value (More part parts) = may_be p value part && all_may_be p value parts

  pub some_may_be : Pair → Bool → Formulas → Bool
  some_may_be p value NoMore = false
  some_may_be p value (More part parts) = may_be p value part || some_may_be p value parts

-- whether a formula may hold
abbrev pub possible : Pair → Formula → Bool
possible p f = may_be p true f

-- the end of an action is possible where its start, what holds all through it and its own condition are
abbrev pub possible_end : Pair → PlainAction → PlainHappening → Bool
possible_end p action finish = possible p action.start.cond && (possible p action.over && possible p finish.cond)

-- what an event adds may be true, and what it deletes is not always true
pub record IsAllowed (p : Pair) (e : PlainHappening) : Type 0 where
  pub added : (a : ℕ) → has e.adds a ≡ true → p.may a ≡ true
  pub deleted : (a : ℕ) → has e.dels a ≡ true → p.always a ≡ false

-- What is true at first may be true, and what is always true is so at first. Each possible event of an action is
-- allowed, and each event of the environment.
pub record IsClosed (task : PlainTask) (p : Pair) : Type 0 where
  pub first : (a : ℕ) → state_of_row task.initial a ≡ true → p.may a ≡ true
  pub always : (a : ℕ) → p.always a ≡ true → state_of_row task.initial a ≡ true
  pub starts : All (λ action. possible p action.start.cond ≡ true → IsAllowed p action.start) task.actions
  pub ends : All (λ action. IfSome action.finish (λ e. possible_end p action e ≡ true → IsAllowed p e)) task.actions
  pub timed : All (λ t. IsAllowed p t.event) task.timed

-- a closed pair under which the goal is not possible shows that no plan reaches it
pub record IsCertificate (task : PlainTask) (p : Pair) : Type 0 where
  pub closed : IsClosed task p
  pub impossible : possible p task.goal ≡ false

-- a pair allows no more than another
pub record IsWithin (p other : Pair) : Type 0 where
  pub may : (a : ℕ) → p.may a ≡ true → other.may a ≡ true
  pub always : (a : ℕ) → other.always a ≡ true → p.always a ≡ true

-- a closed pair within all closed pairs
pub record IsLeastClosed (task : PlainTask) (p : Pair) : Type 0 where
  pub closed : IsClosed task p
  pub least : (other : Pair) → IsClosed task other → IsWithin p other
