-- A step on a grid: what its ground action means, and what each step of a box keeps.
use Rattle.std.proofs.Common.{◌≡◌, ◌≢◌, ℕ, ◌<◌, Bool, true, false, List, [], ◌∷◌, Option, Some, None, IfSome, refl, sym, ap, ◌∙◌, eq-eqb}
use Rattle.std.specs.Prelude.{◌&&◌, ◌==◌, bytes_eq, is_some, option_map}
use Rattle.std.specs.Cmp.Lexicographic.{pointwise}
use Rattle.stp_base.specs.declared.ids.ObjectId.{ObjectId}
use Rattle.stp_instance.specs.Bindings.{numbers_of}
use Rattle.stp_cond.specs.declared.cond.Cond.{Cond}
use Rattle.stp_cond.specs.declared.event.Event.{Event}
use Rattle.stp_cond.specs.Events.{event_of}
use Rattle.stp_cond.specs.Formulas.{view}
use Rattle.stp_cond.specs.Truth.{meaning_of}
use Rattle.stp_cond.specs.Views.{atoms_of}
use Rattle.stp_cond.proofs.Shapes.{truth_is_of_shape}
use Rattle.stp_task.specs.Durations as durations
use Rattle.stp_task.specs.Durations.{PlainDuration}
use Rattle.stp_task.specs.declared.action.GroundAction.{GroundAction}
use Rattle.stp_task.specs.Actions.{PlainAction, happening_of, action_of}
use Rattle.stp_task.specs.Durations.{lasts}
use Rattle.stp_exec.specs.declared.moments.Moments.{Moments}
use Rattle.stp_exec.specs.Held.{PlainHeld, Instant, Fixed, Open}
use Rattle.stp_exec.specs.Timed.{PlainTimedStep, count_of, ends_of, moments_of}
use Rattle.stp_happen.specs.Owners.{PlainBoxStep}
use Rattle.stp_happen.specs.StepViews.{some_event_of}
use Rattle.stp_exec.specs.Times.{takes_time, is_open, fits}
use Rattle.stp_exec.specs.Plans.{meaning, event_in, step_with}

-- ---- meanings

pub meaning_is : (cond : Cond) → meaning_of cond ≡ meaning (view cond)
meaning_is cond = λ i state. truth_is_of_shape state cond i

pub event_is : (e : Event) → event_of e ≡ event_in (happening_of e)
event_is e = λ i. record { cond = meaning_is e.cond.now i; reads = atoms_of e.reads.now; adds = atoms_of e.adds.now; dels = atoms_of e.dels.now }

last_is : (last : Option Event) → some_event_of last ≡ option_map event_in (option_map happening_of last)
last_is None = refl
last_is (Some e) = ap Some (event_is e)

-- a step with the events and the condition of a ground action
abbrev pub step_of_action : Moments → Bool → ℕ → GroundAction → PlainBoxStep
step_of_action moments uncertain key a = record {
  start = moments.start;
  low = moments.low;
  high = moments.high;
  uncertain = uncertain;
  key = key;
  first = event_of a.start;
  last = some_event_of a.finish;
  over = meaning_of a.over.now;
}

pub step_is : (moments : Moments) (uncertain : Bool) (key : ℕ) (a : GroundAction) → step_of_action moments uncertain key a ≡ step_with moments uncertain key (action_of a)
step_is moments uncertain key a = λ i. record {
  start = moments.start;
  low = moments.low;
  high = moments.high;
  uncertain = uncertain;
  key = key;
  first = event_is a.start i;
  last = last_is a.finish i;
  over = meaning_is a.over.now i;
}

-- ---- what each step keeps

fits_lasts : (d : PlainDuration) (held : PlainHeld) → fits d held ≡ true → lasts d ≡ takes_time held
fits_lasts durations.Instant Instant h = refl
fits_lasts durations.Instant (Fixed duration) h = h
fits_lasts durations.Instant (Open low high) h = h
fits_lasts (durations.Controlled least most) Instant h = sym h
fits_lasts (durations.Controlled least most) (Fixed duration) h = refl
fits_lasts (durations.Controlled least most) (Open low high) h = refl
fits_lasts (durations.Uncertain least most) Instant h = sym h
fits_lasts (durations.Uncertain least most) (Fixed duration) h = refl
fits_lasts (durations.Uncertain least most) (Open low high) h = refl

-- the action has a finish exactly where the step takes time
pub finish_is : (a : GroundAction) (action : PlainAction) (d : PlainDuration) (held : PlainHeld) → action_of a ≡ action → action.duration ≡ d → fits d held ≡ true → is_some a.finish ≡ takes_time held
finish_is a action d held e f h = a.ends ∙ ap lasts (ap (λ (x : PlainAction). x.duration) e ∙ f) ∙ fits_lasts d held h

time_not_instant : (held : PlainHeld) → takes_time held ≡ true → held ≢ Instant
time_not_instant Instant h = λ e. cc
time_not_instant (Fixed duration) h = λ e. cc
time_not_instant (Open low high) h = λ e. cc

pub lasting_is : (last : Option Event) (held : PlainHeld) (start low : ℕ) → is_some last ≡ takes_time held → (held ≢ Instant → start < low) → IfSome last (λ e. start < low)
lasting_is None held start low e h = tt
lasting_is (Some event) held start low e h = h (time_not_instant held (sym e))

ends_at_once : (grid start : ℕ) (held : PlainHeld) → takes_time held ≡ false → (start ≡ (ends_of grid start held).0) × (is_open held ≡ false)
ends_at_once grid start Instant h = (refl, refl)
ends_at_once grid start (Fixed duration) h = cc
ends_at_once grid start (Open low high) h = cc

ends_alike : (grid start : ℕ) (held : PlainHeld) → is_open held ≡ false → (ends_of grid start held).0 ≡ (ends_of grid start held).1
ends_alike grid start Instant h = refl
ends_alike grid start (Fixed duration) h = refl
ends_alike grid start (Open low high) h = cc

module _ (grid : ℕ) (t : PlainTimedStep) (moments : Moments) (is : moments ≡ moments_of grid t) where
  pub certain_is : is_open t.held ≡ false → moments.low ≡ moments.high
  certain_is h = ap (λ (m : Moments). m.low) is ∙ ends_alike grid (count_of grid t.start) t.held h ∙ sym (ap (λ (m : Moments). m.high) is)

  pub instant_is : (last : Option Event) → is_some last ≡ takes_time t.held → last ≡ None → (moments.start ≡ moments.low) × (is_open t.held ≡ false)
  instant_is last e none =
      let h : takes_time t.held ≡ false = sym e ∙ ap is_some none in
      let at_once : (count_of grid t.start ≡ (ends_of grid (count_of grid t.start) t.held).0) × (is_open t.held ≡ false) = ends_at_once grid (count_of grid t.start) t.held h in
      (ap (λ (m : Moments). m.start) is ∙ at_once.0 ∙ sym (ap (λ (m : Moments). m.low) is), at_once.1)

-- ---- actions

abbrev is_same_object : ObjectId → ObjectId → Bool
is_same_object a b = a.0 == b.0

same_objects : (xs ys : List ObjectId) → pointwise is_same_object xs ys ≡ bytes_eq (numbers_of xs) (numbers_of ys)
same_objects [] [] = refl
same_objects [] (y ∷ ys) = refl
same_objects (x ∷ xs) [] = refl
same_objects (x ∷ xs) (y ∷ ys) = ap (λ b. (x.0 == y.0) && b) (same_objects xs ys)

-- two choices of one schema are of one action exactly where their objects are the same
pub one_action_is : (schema other : ℕ) (xs ys : List ObjectId) → schema ≡ other → pointwise is_same_object xs ys ≡ ((schema == other) && bytes_eq (numbers_of xs) (numbers_of ys))
one_action_is schema other xs ys e = same_objects xs ys ∙ ap (λ b. b && bytes_eq (numbers_of xs) (numbers_of ys)) (sym (eq-eqb schema other e))
