-- A certificate shows that no run of a task reaches its goal.
use Rattle.std.specs.Prelude.{◌≡◌, ℕ, ◌<◌, ◌≤◌, false, List, All, Contains, Some, None, IfSome, option_map, ◌⊎◌}
use Rattle.stp_cond.specs.Folded.{is_never}
use Rattle.stp_cond.specs.Formulas.{Always}
use Rattle.stp_cond.specs.Truth.{state_of_row}
use Rattle.stp_happen.specs.Boxes.{PlainBox, PlainOwner, IsVector, run_under}
use Rattle.stp_happen.specs.Plain.{Executes}
use Rattle.stp_task.specs.Actions.{PlainAction, event_in, meaning}
use Rattle.stp_task.specs.Certificates.{IsCertificate, Pair}
use Rattle.stp_task.specs.Tasks.{PlainTask, PlainTimedEvent}

-- none of the conditions of an action is the formula false
pub record IsKeptAction (action : PlainAction) : Type 0 where
  pub start : is_never action.start.cond ≡ false
  pub over : is_never action.over ≡ false
  pub finish : IfSome action.finish (λ e. is_never e.cond ≡ false)

-- an action that is one of the task's if it is kept
abbrev pub IsActionOf : PlainTask → PlainAction → Type 0
IsActionOf task action = IsKeptAction action → Contains task.actions action

-- A step of an action: it starts with the action's first event and ends, later, with its last, if there is one; what
-- holds all through the action holds inside, and what takes no time needs nothing inside.
pub record IsStepOf (action : PlainAction) (o : PlainOwner) : Type 0 where
  pub first : o.first ≡ Some (event_in action.start)
  pub last : o.last ≡ option_map event_in action.finish
  pub inside : (key : ℕ) × (o.inside ≡ Some (record { key = key; over = meaning action.over }))
  pub lasting : IfSome action.finish (λ e. (o.start < o.low) × (o.low ≤ o.high))
  pub instant : action.finish ≡ None → action.over ≡ Always

-- an event of the environment, with nothing before it
pub record IsEventOf (t : PlainTimedEvent) (o : PlainOwner) : Type 0 where
  pub first : o.first ≡ None
  pub last : o.last ≡ Some (event_in t.event)

-- a step of an action of the task, or an event of its environment
abbrev pub IsOwnerIn : PlainTask → PlainOwner → Type 0
IsOwnerIn task o = ((action : PlainAction) × IsActionOf task action × IsStepOf action o) ⊎ ((t : PlainTimedEvent) × Contains task.timed t × IsEventOf t o)

-- a box of any number of steps of a task's actions, on any grid, with events of its environment
pub record IsBoxOf (task : PlainTask) (box : PlainBox) : Type 0 where
  pub owners : All (IsOwnerIn task) box.owners
  pub initial : (a : ℕ) → box.initial a ≡ state_of_row task.initial a
  pub goal : box.goal ≡ meaning task.goal

-- Where there is a certificate, no run of such a box executes, whatever the uncertain durations are.
abbrev pub CertificatesHold : Type 0
CertificatesHold = (task : PlainTask) (p : Pair) → IsCertificate task p → (box : PlainBox) → IsBoxOf task box → (durations : List ℕ) → IsVector box.owners durations → Executes (run_under box durations) → ⊥
