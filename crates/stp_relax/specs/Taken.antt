-- What is known to be possible once an event or an action has been looked at.
use Rattle.std.specs.Prelude.{◌==◌, ◌<◌, ◌≡◌, ℕ, ◌+◌, ◌≤◌, Bool, true, false, if◌then◌else◌, List, length, IfSome}
use Rattle.std.specs.List.{sum_by}
use Rattle.stp_cond.specs.Atoms.{has}
use Rattle.stp_cond.specs.Formulas.{Formula}
use Rattle.stp_cond.specs.Truth.{state_of_row}
use Rattle.stp_cond.specs.Views.{atoms_of}
use Rattle.stp_task.specs.Actions.{PlainAction, PlainHappening}
use Rattle.stp_task.specs.Certificates.{Pair, IsAllowed, IsWithin, possible, possible_end}
use Rattle.stp_relax.specs.Literals.{pair_in}
use Rattle.stp_relax.specs.declared.progress.Progress.{Progress}

-- 1 where a value is not the wanted one
abbrev pub off : Bool → Bool → ℕ
off true value = if value then 0 else 1
off false value = if value then 1 else 0

-- atoms got a value in a row, and each that had another was noted
pub record IsMarked (value : Bool) (atoms : List ℕ) (old new : List Bool) (noted now_noted : List ℕ) : Type 0 where
  pub size : length new ≡ length old
  pub state : (a : ℕ) → state_of_row new a ≡ (if has atoms a then value else state_of_row old a)
  pub unnoted : (a : ℕ) → has now_noted a ≡ false → (has noted a ≡ false) × (state_of_row new a ≡ state_of_row old a)
  pub less : sum_by (off value) new + length now_noted ≤ sum_by (off value) old + length noted

abbrev pub pair_so_far : Progress → Pair
pair_so_far q = pair_in q.may q.always

abbrev pub is_noted : Progress → ℕ → Bool
is_noted q atom = has (atoms_of q.noted.items) atom

-- how many literals are not possible yet or noted
abbrev pub left : Progress → ℕ
left q = (sum_by (off true) q.may + sum_by (off false) q.always) + length q.noted.items

pub record IsOfSize (n : ℕ) (q : Progress) : Type 0 where
  pub may : length q.may ≡ n
  pub always : length q.always ≡ n

-- an atom is not noted, and stands as it stood before
pub record IsAsBefore (q r : Progress) (a : ℕ) : Type 0 where
  pub unnoted : is_noted q a ≡ false
  pub may : state_of_row r.may a ≡ state_of_row q.may a
  pub always : state_of_row r.always a ≡ state_of_row q.always a

-- no fewer literals are possible, and all that changed is noted
pub record IsGrown (q r : Progress) : Type 0 where
  pub size : (n : ℕ) → IsOfSize n q → IsOfSize n r
  pub within : IsWithin (pair_so_far q) (pair_so_far r)
  pub unnoted : (a : ℕ) → is_noted r a ≡ false → IsAsBefore q r a
  pub less : left r ≤ left q

-- an event is allowed, and no more is possible than where it is allowed
pub record IsAdmitted (e : PlainHappening) (q r : Progress) : Type 0 where
  pub grown : IsGrown q r
  pub allowed : IsAllowed (pair_so_far r) e
  pub least : (other : Pair) → IsWithin (pair_so_far q) other → IsAllowed other e → IsWithin (pair_so_far r) other

-- the same of an event where it was possible
pub record IsBegun (e : PlainHappening) (q r : Progress) : Type 0 where
  pub grown : IsGrown q r
  pub allowed : possible (pair_so_far q) e.cond ≡ true → IsAllowed (pair_so_far r) e
  pub least : (other : Pair) → IsWithin (pair_so_far q) other → (possible other e.cond ≡ true → IsAllowed other e) → IsWithin (pair_so_far r) other

-- the same of an event that was possible together with another condition
pub record IsFinished (over : Formula) (e : PlainHappening) (q r : Progress) : Type 0 where
  pub grown : IsGrown q r
  pub allowed : possible (pair_so_far q) over ≡ true → possible (pair_so_far q) e.cond ≡ true → IsAllowed (pair_so_far r) e
  pub least : (other : Pair) → IsWithin (pair_so_far q) other → (possible other over ≡ true → possible other e.cond ≡ true → IsAllowed other e) → IsWithin (pair_so_far r) other

-- each event of an action that is possible under the one pair is allowed under the other
pub record Allows (seen now : Pair) (action : PlainAction) : Type 0 where
  pub start : possible seen action.start.cond ≡ true → IsAllowed now action.start
  pub finish : IfSome action.finish (λ e. possible_end seen action e ≡ true → IsAllowed now e)

-- the possible events of an action are allowed, and no more is possible than where they are allowed
pub record IsTaken (action : PlainAction) (q r : Progress) : Type 0 where
  pub grown : IsGrown q r
  pub allows : Allows (pair_so_far q) (pair_so_far r) action
  pub least : (other : Pair) → IsWithin (pair_so_far q) other → Allows other other action → IsWithin (pair_so_far r) other

-- an atom that was noted last is so no longer, unless it was noted before too
pub record IsPopped (q r : Progress) (atom : ℕ) : Type 0 where
  pub may : r.may ≡ q.may
  pub always : r.always ≡ q.always
  pub noted : (a : ℕ) → (atom == a) ≡ false → is_noted r a ≡ is_noted q a
  pub less : left r < left q

-- nothing was noted
pub record IsIdle (q r : Progress) : Type 0 where
  pub may : r.may ≡ q.may
  pub always : r.always ≡ q.always
  pub unnoted : (a : ℕ) → is_noted q a ≡ false
