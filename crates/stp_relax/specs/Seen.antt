-- How far the conditions and the events of an action have been looked at.
use Rattle.std.specs.Prelude.{◌≡◌, ℕ, ◌<◌, true, false, List, take, length, slice_index_or, All, IfSome}
use Rattle.std.specs.Borrow.{Bor}
use Rattle.stp_cond.specs.declared.cond.Cond.{Cond}
use Rattle.stp_cond.specs.declared.cond.Cond.TheVariants.{And}
use Rattle.stp_cond.specs.Formulas.{view}
use Rattle.stp_task.specs.declared.action.GroundAction.{GroundAction}
use Rattle.stp_task.specs.Actions.{happening_of}
use Rattle.stp_task.specs.Certificates.{Pair, IsAllowed, possible}
use Rattle.stp_relax.specs.declared.progress.Seen.{Seen}

-- the first of these are possible
abbrev pub AreMet : Pair → ℕ → List Cond → Type 0
AreMet p n parts = All (λ c. possible p (view c) ≡ true) (take n parts)

-- the first members of a condition are possible, if it is a conjunction
abbrev pub IsMetUpTo : Pair → ℕ → Cond → Type 0
IsMetUpTo p n cond = (parts : Bor (List Cond)) → cond ≡ And parts → AreMet p n parts.now

-- Of an action's conditions so many first members are possible. Events that have been taken over are possible and
-- allowed.
pub record IsSeen (p : Pair) (action : GroundAction) (s : Seen) : Type 0 where
  pub start : IsMetUpTo p s.start action.start.cond.now
  pub over : IsMetUpTo p s.over action.over.now
  pub finish : IfSome action.finish (λ e. IsMetUpTo p s.finish e.cond.now)
  pub begun : s.has_begun ≡ true → (possible p (view action.start.cond.now) ≡ true) × IsAllowed p (happening_of action.start)
  pub ended : s.has_ended ≡ true → IfSome action.finish (λ e. IsAllowed p (happening_of e))

pub record AreSeen (p : Pair) (actions : List GroundAction) (seen : List Seen) : Type 0 where
  pub size : length seen ≡ length actions
  pub each : (j : ℕ) (d : GroundAction) (s : Seen) → j < length actions → IsSeen p (slice_index_or actions j d) (slice_index_or seen j s)

-- nothing is known of an action
pub record IsUnseen (s : Seen) : Type 0 where
  pub start : s.start ≡ 0
  pub over : s.over ≡ 0
  pub finish : s.finish ≡ 0
  pub begun : s.has_begun ≡ false
  pub ended : s.has_ended ≡ false
