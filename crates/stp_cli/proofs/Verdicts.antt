-- Verdicts on boxes, and the times that they print.
use Rattle.std.proofs.Common.{◌≡◌, ℕ, zero, suc, ◌+◌, ◌*◌, ◌≤◌, ◌<◌, Bool, true, false, if◌then◌else◌, List, [], ◌∷◌, ◌++◌, length, drop, All, not, filter, refl, sym, ap, subst, ◌∙◌, arith}
use Rattle.std.specs.Prelude.{slice_index, slice_get, cond, count_by, IfSome}
use Rattle.std.proofs.lemmas.List.{length-map}
use Rattle.std.proofs.lemmas.List.Sums.{sum_by-append}
use Rattle.std.proofs.Math.Logic.{∥∥₁_elim}
use Rattle.std.proofs.Props.{props}
use Rattle.std.proofs.lemmas.List.Elements.{All-nil, All-cons, All-head, All-tail, All-append}
use Rattle.stp_happen.specs.declared.boxes.BoxStep.{BoxStep}
use Rattle.stp_happen.specs.declared.boxes.BoxRun.{BoxRun}
use Rattle.stp_happen.specs.declared.boxes.BoxTimed.{BoxTimed}
use Rattle.stp_happen.specs.declared.fault.Fault.{Fault}
use Rattle.stp_happen.specs.Boxes.{PlainOwner, IsVector, rest_of}
use Rattle.stp_happen.specs.Owners.{PlainBoxTimed, step_owner, step_owners, timed_owner, timed_owners, number_after}
use Rattle.stp_happen.specs.StepViews.{step_of, steps_of, plain_timed, timed_of}
use Rattle.stp_happen.specs.BoxViews.{plain_box}
use Rattle.stp_report.specs.Bounds.{IsTime, IsFaultTime, AreWeakTimes}
use Rattle.stp_cli.specs.Verdict.{is_step, is_uncertain_step, is_chosen_event, step_count, uncertain_count, event_count}

abbrev EndsInTime : ℕ → PlainOwner → Type 0
EndsInTime grid o = o.high ≤ 999999999 * grid

pub grid_low : (boxed : BoxRun) → 1 ≤ boxed.grid
grid_low boxed = ∥∥₁_elim boxed.sound (Prim.hlevel props) (λ b. b.grid_low)

pub grid_high : (boxed : BoxRun) → boxed.grid ≤ 999999999
grid_high boxed = ∥∥₁_elim boxed.sound (Prim.hlevel props) (λ b. b.grid_high)

-- an uncertain step that ends in time has a duration that is a time, and so have the steps after it
module _ (grid : ℕ) where
  more : (start high : ℕ) (uncertain : Bool) (durations : List ℕ) → high ≤ 999999999 * grid → (uncertain ≡ true → (0 < length durations) × (start + slice_index durations 0 ≤ high)) → All (IsTime grid) (if uncertain then drop 1 durations else durations) → All (IsTime grid) durations
  more start high false durations up within rest = rest
  more start high true [] up within rest = rest
  more start high true (d ∷ ds) up within rest = All-cons (IsTime grid) d ds (let w : start + d ≤ high = (within refl).1 in omega (arith, up, w)) rest

  vector_times : (owners : List PlainOwner) (durations : List ℕ) → All (EndsInTime grid) owners → IsVector owners durations → All (IsTime grid) durations
  vector_times [] durations up e = subst (All (IsTime grid)) (sym e) (All-nil (IsTime grid))
  vector_times (o ∷ os) durations up (within, rest) =
      more o.start o.high o.uncertain durations (All-head (EndsInTime grid) o os up) (λ u. let w = within u in (w.0, w.2))
      (vector_times os (rest_of o durations) (All-tail (EndsInTime grid) o os up) rest)

  -- what steps and events end in time, their owners do
  steps_end : (number : ℕ) (steps : List BoxStep) → All (λ (s : BoxStep). s.high ≤ 999999999 * grid) steps → All (EndsInTime grid) (step_owners number (steps_of steps))
  steps_end number [] up = All-nil (EndsInTime grid)
  steps_end number (s ∷ ss) up =
      All-cons (EndsInTime grid) (step_owner number (step_of s)) (step_owners (number + 1) (steps_of ss)) (All-head (λ (s : BoxStep). s.high ≤ 999999999 * grid) s ss up)
      (steps_end (number + 1) ss (All-tail (λ (s : BoxStep). s.high ≤ 999999999 * grid) s ss up))

  events_end : (number : ℕ) (timed : List BoxTimed) → All (λ (e : BoxTimed). e.high ≤ 999999999 * grid) timed → All (EndsInTime grid) (timed_owners number (timed_of timed))
  events_end number [] up = All-nil (EndsInTime grid)
  events_end number (e ∷ es) up =
      All-cons (EndsInTime grid) (timed_owner number (plain_timed e)) (timed_owners (number_after number (plain_timed e)) (timed_of es)) (All-head (λ (e : BoxTimed). e.high ≤ 999999999 * grid) e es up)
      (events_end (number_after number (plain_timed e)) es (All-tail (λ (e : BoxTimed). e.high ≤ 999999999 * grid) e es up))

steps_in_time : (boxed : BoxRun) → All (λ (s : BoxStep). s.high ≤ 999999999 * boxed.grid) boxed.steps
steps_in_time boxed = ∥∥₁_elim boxed.sound (Prim.hlevel props) (λ b k d h. (b.steps_in_range k d h).high)

early_in_time : (high grid : ℕ) → high ≤ 100000000 * grid → high ≤ 999999999 * grid
early_in_time high grid h = omega (arith, h)

events_in_time : (boxed : BoxRun) → All (λ (e : BoxTimed). e.high ≤ 999999999 * boxed.grid) boxed.timed
events_in_time boxed = ∥∥₁_elim boxed.sound (Prim.hlevel props) (λ b k d h. early_in_time _ boxed.grid (b.timed_in_range k d h).high)

owners_in_time : (boxed : BoxRun) → All (EndsInTime boxed.grid) (plain_box boxed).owners
owners_in_time boxed =
    All-append (EndsInTime boxed.grid) (step_owners 1 (steps_of boxed.steps)) (timed_owners (length (steps_of boxed.steps) + 1) (timed_of boxed.timed))
    (steps_end boxed.grid 1 boxed.steps (steps_in_time boxed))
    (events_end boxed.grid (length (steps_of boxed.steps) + 1) boxed.timed (events_in_time boxed))

-- what is printed of a box that is not strong can be printed
pub weak_times : (boxed : BoxRun) (durations : List ℕ) (fault : Fault) → IsVector (plain_box boxed).owners durations → IsFaultTime boxed.grid fault → AreWeakTimes boxed.grid durations fault
weak_times boxed durations fault vector time = record {
  is_grid = record { low = grid_low boxed; high = grid_high boxed };
  durations_within = vector_times boxed.grid (plain_box boxed).owners durations (owners_in_time boxed) vector;
  fault_within = time;
}

-- what holds of all holds of the one at a place, if there is one
pub got_of_all : {A : Type 0} (P : A → Type 0) (xs : List A) (k : ℕ) → All P xs → IfSome (slice_get xs k) P
got_of_all P [] k all = tt
got_of_all P (x ∷ xs) zero all = All-head P x xs all
got_of_all P (x ∷ xs) (suc k) all = got_of_all P xs k (All-tail P x xs all)

-- ---- how many steps there are

steps_counted : (number : ℕ) (steps : List BoxStep) → count_by is_step (step_owners number (steps_of steps)) ≡ length steps
steps_counted number [] = refl
steps_counted number (s ∷ ss) =
    let owners = step_owners (number + 1) (steps_of ss) in
    let sum : count_by is_step (step_owners number (steps_of (s ∷ ss))) ≡ 1 + count_by is_step owners = sum_by-append (λ o. cond (is_step o) 1 0) (step_owner number (step_of s) ∷ []) owners in
    let rest : count_by is_step owners ≡ length ss = steps_counted (number + 1) ss in
    omega (arith, sum, rest)

uncertain_counted : (number : ℕ) (steps : List BoxStep) → count_by is_uncertain_step (step_owners number (steps_of steps)) ≡ count_by (λ (s : BoxStep). s.uncertain) steps
uncertain_counted number [] = refl
uncertain_counted number (s ∷ ss) =
    let owners = step_owners (number + 1) (steps_of ss) in
    let one = 0 + cond s.uncertain 1 0 in
    let sum : count_by is_uncertain_step (step_owners number (steps_of (s ∷ ss))) ≡ one + count_by is_uncertain_step owners = sum_by-append (λ o. cond (is_uncertain_step o) 1 0) (step_owner number (step_of s) ∷ []) owners in
    let steps : count_by (λ (x : BoxStep). x.uncertain) (s ∷ ss) ≡ one + count_by (λ (x : BoxStep). x.uncertain) ss = sum_by-append (λ (x : BoxStep). cond x.uncertain 1 0) (s ∷ []) ss in
    sum ∙ ap (λ n. one + n) (uncertain_counted (number + 1) ss) ∙ sym steps

no_steps : (number : ℕ) (timed : List PlainBoxTimed) → count_by is_step (timed_owners number timed) ≡ 0
no_steps number [] = refl
no_steps number (e ∷ es) = no_steps (number_after number e) es

none_uncertain : (number : ℕ) (timed : List PlainBoxTimed) → count_by is_uncertain_step (timed_owners number timed) ≡ 0
none_uncertain number [] = refl
none_uncertain number (e ∷ es) = none_uncertain (number_after number e) es

-- events of the environment are no steps
counted : (p : PlainOwner → Bool) (steps others : List PlainOwner) (n : ℕ) → count_by p steps ≡ n → count_by p others ≡ 0 → count_by p (steps ++ others) ≡ n
counted p steps others n e f =
    let both : count_by p (steps ++ others) ≡ count_by p steps + count_by p others = sum_by-append (λ o. cond (p o) 1 0) steps others in
    omega (arith, both, e, f)

-- the events whose moments are chosen, among owners
chosen_counted : (number : ℕ) (timed : List BoxTimed) → count_by is_chosen_event (timed_owners number (timed_of timed)) ≡ count_by (λ (e : BoxTimed). e.uncertain) timed
chosen_counted number [] = refl
chosen_counted number (e ∷ es) =
    let after = number_after number (plain_timed e) in
    let owners = timed_owners after (timed_of es) in
    let one = 0 + cond e.uncertain 1 0 in
    let sum : count_by is_chosen_event (timed_owners number (timed_of (e ∷ es))) ≡ one + count_by is_chosen_event owners = sum_by-append (λ o. cond (is_chosen_event o) 1 0) (timed_owner number (plain_timed e) ∷ []) owners in
    let events : count_by (λ (x : BoxTimed). x.uncertain) (e ∷ es) ≡ one + count_by (λ (x : BoxTimed). x.uncertain) es = sum_by-append (λ (x : BoxTimed). cond x.uncertain 1 0) (e ∷ []) es in
    sum ∙ ap (λ n. one + n) (chosen_counted after es) ∙ sym events

-- steps are no events of the environment
no_events : (number : ℕ) (steps : List BoxStep) → count_by is_chosen_event (step_owners number (steps_of steps)) ≡ 0
no_events number [] = refl
no_events number (s ∷ ss) = no_events (number + 1) ss

pub box_steps : (boxed : BoxRun) → length boxed.steps ≡ step_count (plain_box boxed)
box_steps boxed =
    let after = length (steps_of boxed.steps) + 1 in
    sym (counted is_step (step_owners 1 (steps_of boxed.steps)) (timed_owners after (timed_of boxed.timed)) (length boxed.steps) (steps_counted 1 boxed.steps) (no_steps after (timed_of boxed.timed)))

pub box_uncertain : (boxed : BoxRun) → count_by (λ (s : BoxStep). s.uncertain) boxed.steps ≡ uncertain_count (plain_box boxed)
box_uncertain boxed =
    let after = length (steps_of boxed.steps) + 1 in
    let many = count_by (λ (s : BoxStep). s.uncertain) boxed.steps in
    sym (counted is_uncertain_step (step_owners 1 (steps_of boxed.steps)) (timed_owners after (timed_of boxed.timed)) many (uncertain_counted 1 boxed.steps) (none_uncertain after (timed_of boxed.timed)))

pub box_events : (boxed : BoxRun) → count_by (λ (e : BoxTimed). e.uncertain) boxed.timed ≡ event_count (plain_box boxed)
box_events boxed =
    let after = length (steps_of boxed.steps) + 1 in
    let steps = step_owners 1 (steps_of boxed.steps) in
    let events = timed_owners after (timed_of boxed.timed) in
    let both : count_by is_chosen_event (steps ++ events) ≡ count_by is_chosen_event steps + count_by is_chosen_event events = sum_by-append (λ o. cond (is_chosen_event o) 1 0) steps events in
    let none : count_by is_chosen_event steps ≡ 0 = no_events 1 boxed.steps in
    let some : count_by is_chosen_event events ≡ count_by (λ (e : BoxTimed). e.uncertain) boxed.timed = chosen_counted after boxed.timed in
    omega (arith, both, none, some)

-- ---- how many events there may be

one_of_both : {A : Type 0} (b : Bool) (x : A) (ys zs : List A) (n : ℕ) → n ≡ length ys + length zs → n + 1 ≡ length (if not b then x ∷ ys else ys) + length (if b then x ∷ zs else zs)
one_of_both true x ys zs n e = omega (arith, e)
one_of_both false x ys zs n e = omega (arith, e)

of_both : {A : Type 0} (p : A → Bool) (xs : List A) → length xs ≡ length (filter (λ x. not (p x)) xs) + length (filter p xs)
of_both p [] = refl
of_both p (x ∷ xs) = let one = one_of_both (p x) x (filter (λ x. not (p x)) xs) (filter p xs) (length xs) (of_both p xs) in omega (arith, one)

pub few_events : (boxed : BoxRun) → length boxed.timed ≤ 130
few_events boxed =
    let both : length (timed_of boxed.timed) ≡ length (filter (λ e. not e.uncertain) (timed_of boxed.timed)) + length (filter (λ e. e.uncertain) (timed_of boxed.timed)) = of_both (λ e. e.uncertain) (timed_of boxed.timed) in
    let same : length (timed_of boxed.timed) ≡ length boxed.timed = length-map boxed.timed plain_timed in
    let fixed : length (filter (λ e. not e.uncertain) (timed_of boxed.timed)) ≤ 100 = ∥∥₁_elim boxed.sound (Prim.hlevel props) (λ b. b.few_fixed) in
    let chosen : length (filter (λ e. e.uncertain) (timed_of boxed.timed)) ≤ 30 = ∥∥₁_elim boxed.sound (Prim.hlevel props) (λ b. b.few_chosen) in
    omega (arith, both, same, fixed, chosen)
