-- Verdicts on boxes.
use Rattle.std.specs.Prelude.{◌≡◌, ℕ, ◌⊎◌, Bool, ◌&&◌, not, is_some, List, count_by}
use Rattle.std.specs.Borrow.{Bor}
use Rattle.stp_happen.specs.Faults.{IsFirstFault}
use Rattle.stp_happen.specs.Boxes.{PlainOwner, PlainBox, IsStrong, run_under}
use Rattle.stp_happen.specs.LeastFailure.{IsLeastFailure}
use Rattle.stp_happen.specs.declared.fault.Fault.{Fault}
use Rattle.stp_report.specs.declared.answer.Answer.{Answer}
use Rattle.stp_report.specs.declared.answer.Answer.TheVariants as answers

-- steps have a first event, and events of the environment have none
abbrev pub is_step : PlainOwner → Bool
is_step o = is_some o.first

abbrev pub is_uncertain_step : PlainOwner → Bool
is_uncertain_step o = is_step o && o.uncertain

-- an event of the environment whose moment is chosen
abbrev pub is_chosen_event : PlainOwner → Bool
is_chosen_event o = not (is_step o) && o.uncertain

abbrev pub step_count : PlainBox → ℕ
step_count box = count_by is_step box.owners

abbrev pub uncertain_count : PlainBox → ℕ
uncertain_count box = count_by is_uncertain_step box.owners

abbrev pub event_count : PlainBox → ℕ
event_count box = count_by is_chosen_event box.owners

-- on every finer grid and for every choice of the uncertain durations and the moments of events the run executes, and
-- that is the answer
pub record IsStrongVerdict (grid : ℕ) (box : PlainBox) (answer : Answer) : Type 0 where
  pub strong : IsStrong box
  pub answered : answer ≡ answers.Strong (step_count box) (uncertain_count box) (event_count box) grid

-- it does not, and the answer is the least durations and moments on the box's own grid at which it does not, with the
-- first fault of that run
pub record IsWeakVerdict (grid : ℕ) (box : PlainBox) (answer : Answer) : Type 0 where
  pub durations : Bor (List ℕ)
  pub fault : Fault
  pub weak : IsStrong box → ⊥
  pub least : IsLeastFailure box durations.now
  pub first : IsFirstFault (run_under box durations.now) fault
  pub answered : answer ≡ answers.Weak grid durations fault

abbrev pub IsVerdict : ℕ → PlainBox → Answer → Type 0
IsVerdict grid box answer = IsStrongVerdict grid box answer ⊎ IsWeakVerdict grid box answer
