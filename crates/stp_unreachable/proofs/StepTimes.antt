-- A step of a plan whose action takes time ends after its start on each grid on which it lies.
use Rattle.std.proofs.Common.{Contains, List, ◌≡◌, ◌≢◌, ℕ, ◌<◌, ◌≤◌, Bool, true, false, ◌&&◌, if◌then◌else◌, [], ◌∷◌, Option, Some, None, option_map, IfSome, refl, sym, ap, ◌∙◌, subst, true≢false}
use Rattle.std.specs.Prelude.{All}
use Rattle.std.specs.List.{list_all}
use Rattle.std.specs.Ordering.{is_eq, is_lt, is_le}
use Rattle.std.specs.declared.cmp.Ordering.{Ordering}
use Rattle.std.specs.declared.cmp.Ordering.TheVariants.{Less, Equal, Greater}
use Rattle.std.proofs.lemmas.List.Elements.{All-head, All-tail}
use Rattle.stp_frac.specs.Divisors.{divides}
use Rattle.stp_frac.specs.Fractions.{Fraction, order_of, is_at_most, is_less, zero}
use Rattle.stp_frac.proofs.Divisors.{both_true, left_true, right_true}
use Rattle.stp_schema.specs.Schemas as schemas
use Rattle.stp_schema.specs.Views.{PlainProblem}
use Rattle.stp_happen.proofs.Members.{each_of}
use Rattle.stp_task.specs.Durations as durations
use Rattle.stp_task.specs.Durations.{PlainDuration, is_lawful, lasts}
use Rattle.stp_instance.specs.Timings.{DurationsAreLawful, bounds_of, controlled, uncertain}
use Rattle.stp_instance.specs.Values.{value}
use Rattle.stp_ground.specs.Chosen.{PlainChosen}
use Rattle.stp_exec.specs.Held.{PlainHeld, Instant, Fixed, Open, is_lawful_held}
use Rattle.stp_exec.specs.Times.{fits}
use Rattle.stp_exec.specs.Timed.{count_of, held_denominators, lies_on, moments_of}
use Rattle.stp_exec.specs.Placed.{PlainPlaced}
use Rattle.stp_exec.specs.Plans.{IsPlan, IsReduced, IsStepOf, numbers_of}
use Rattle.stp_exec.proofs.Bounds.{ends_later, ends_ordered}
use Rattle.stp_unreachable.proofs.Choosing.{IsChoice, choice}
use Rattle.stp_unreachable.proofs.Lasting.{fixed_lawful, open_lawful}

-- ---- durations are lawful

abbrev AreLawful : Fraction × Fraction → Type 0
AreLawful b = (is_less zero b.0 && is_at_most b.0 b.1) ≡ true

bounds_lawful : (low high : Option Fraction) → IfSome (bounds_of low high) AreLawful
bounds_lawful None high = tt
bounds_lawful (Some low) None = tt
bounds_lawful (Some low) (Some high) = at (is_less zero low && is_at_most low high) refl
  where
    at : (b : Bool) → (is_less zero low && is_at_most low high) ≡ b → IfSome (if b then Some (low, high) else None) AreLawful
    at true e = e
    at false e = tt

made_lawful : (o : Option (Fraction × Fraction)) (make : Fraction × Fraction → PlainDuration) → ((b : Fraction × Fraction) → AreLawful b → is_lawful (make b) ≡ true) → IfSome o AreLawful → IfSome (option_map make o) (λ d. is_lawful d ≡ true)
made_lawful None make h l = tt
made_lawful (Some b) make h l = h b l

uncertain_lawful : (b : Fraction × Fraction) → AreLawful b → is_lawful (uncertain b) ≡ true
uncertain_lawful b l = at (order_of b.0 b.1) refl
  where
    at : (o : Ordering) → order_of b.0 b.1 ≡ o → is_lawful (if is_eq o then durations.Controlled b.0 b.1 else durations.Uncertain b.0 b.1) ≡ true
    at Equal e = l
    at Less e = both_true (is_less zero b.0) (is_less b.0 b.1) (left_true (is_less zero b.0) (is_at_most b.0 b.1) l) (ap is_lt e)
    at Greater e = absurd (true≢false (sym (right_true (is_less zero b.0) (is_at_most b.0 b.1) l) ∙ ap is_le e))

durations_are_lawful : DurationsAreLawful
durations_are_lawful given binding schemas.Instant = refl
durations_are_lawful given binding (schemas.Controlled low high) = made_lawful (bounds_of (value given binding low) (value given binding high)) controlled (λ b l. l) (bounds_lawful (value given binding low) (value given binding high))
durations_are_lawful given binding (schemas.Uncertain low high) = made_lawful (bounds_of (value given binding low) (value given binding high)) uncertain uncertain_lawful (bounds_lawful (value given binding low) (value given binding high))

choice_lawful : (p : PlainProblem) (c : PlainChosen) → IsChoice p c → is_lawful c.duration ≡ true
choice_lawful p c h =
    let lawful : is_lawful h.lasting ≡ true = subst (λ o. IfSome o (λ d. is_lawful d ≡ true)) h.lasts (durations_are_lawful p.values h.objects h.schema.timing) in
    ap (λ (c : PlainChosen). is_lawful c.duration) (sym h.is) ∙ lawful

-- ---- steps

abbrev AreReduced : PlainHeld → Type 0
AreReduced held = All IsReduced (numbers_of held)

held_lawful : (d : PlainDuration) (held : PlainHeld) → is_lawful d ≡ true → fits d held ≡ true → AreReduced held → is_lawful_held held ≡ true
held_lawful d Instant l h r = refl
held_lawful durations.Instant (Fixed f) l h r = absurd (true≢false (sym h))
held_lawful durations.Instant (Open low high) l h r = absurd (true≢false (sym h))
held_lawful (durations.Controlled least most) (Fixed f) l h r = fixed_lawful least most f (All-head IsReduced f [] r).bottom (left_true (is_less zero least) (is_at_most least most) l) h
held_lawful (durations.Controlled least most) (Open low high) l h r = absurd (true≢false (sym h))
held_lawful (durations.Uncertain least most) (Fixed f) l h r = absurd (true≢false (sym h))
held_lawful (durations.Uncertain least most) (Open low high) l h r =
    open_lawful least most low high (All-head IsReduced low (high ∷ []) r).bottom (All-head IsReduced high [] (All-tail IsReduced low (high ∷ []) r)).bottom l h

held_lasts : (d : PlainDuration) (held : PlainHeld) → lasts d ≡ true → fits d held ≡ true → held ≢ Instant
held_lasts durations.Instant held l h = λ e. true≢false (sym l)
held_lasts (durations.Controlled least most) held l h = λ e. true≢false (sym h ∙ ap (fits (durations.Controlled least most)) e)
held_lasts (durations.Uncertain least most) held l h = λ e. true≢false (sym h ∙ ap (fits (durations.Uncertain least most)) e)

-- what a step of a plan chooses
pub step_choice : (p : PlainProblem) (steps : List PlainPlaced) → IsPlan p steps → (s : PlainPlaced) → Contains steps s → IsChoice p s.chosen
step_choice p steps plan s i = let is = each_of (IsStepOf p) steps plan s i in choice p is.instance.0 is.instance.1.0 s.chosen is.instance.1.1

-- it ends after its start, and its last end is not before its first one
pub step_lasts : (p : PlainProblem) (s : PlainPlaced) → IsStepOf p s → IsChoice p s.chosen → lasts s.chosen.duration ≡ true → (grid : ℕ) → 0 < grid → lies_on grid s.timed ≡ true →
    ((moments_of grid s.timed).start < (moments_of grid s.timed).low) × ((moments_of grid s.timed).low ≤ (moments_of grid s.timed).high)
step_lasts p s is choice l grid pg lies =
    let held = s.timed.held in
    let start = count_of grid s.timed.start in
    let lawful = held_lawful s.chosen.duration held (choice_lawful p s.chosen choice) is.lasts (All-tail IsReduced s.timed.start (numbers_of held) is.lowest) in
    let on = right_true (divides s.timed.start.bottom grid) (list_all (λ d. divides d grid) (held_denominators held)) lies in
    (ends_later grid start held pg lawful on (held_lasts s.chosen.duration held l is.lasts), (ends_ordered grid start held pg lawful on).1)
