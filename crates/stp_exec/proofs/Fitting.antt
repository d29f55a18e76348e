-- A time that a bracket gives is one that the action may last, and the program's times have lowest terms.
use Rattle.std.proofs.Common.{◌≡◌, Bool, true, false, ◌&&◌, if◌then◌else◌, pos, ◌*ℤ◌, [], ◌∷◌, Result, Ok, Err, IfOk, Less, Equal, Greater, Ordering, refl, sym, ap, arith}
use Rattle.std.specs.List.{All}
use Rattle.std.specs.Ordering.{is_eq, is_le}
use Rattle.std.specs.Cmp.{int_cmp_is}
use Rattle.std.proofs.lemmas.List.Elements.{All-nil, All-cons}
use Rattle.stp_frac.specs.declared.frac.Frac.{Frac}
use Rattle.stp_frac.specs.Fractions.{Fraction, value_of, order_of, zero, is_at_most}
use Rattle.stp_frac.proofs.Divisors.{both_true, left_true}
use Rattle.stp_frac.proofs.Values.{value_is_lowest}
use Rattle.stp_refusal.specs.declared.code.Code.{Code}
use Rattle.stp_refusal.specs.declared.code.Code.TheVariants.{X06, X07, X08, X09}
use Rattle.stp_task.specs.Durations as durations
use Rattle.stp_task.specs.Durations.{PlainDuration}
use Rattle.stp_plan.specs.Steps.{PlainBracket, NoBracket, Exactly, AnyNumber, Between}
use Rattle.stp_exec.specs.declared.held.Held.{Held}
use Rattle.stp_exec.specs.declared.held.Held.TheVariants as helds
use Rattle.stp_exec.specs.declared.timed_step.TimedStep.{TimedStep}
use Rattle.stp_exec.specs.Held.{PlainHeld, Instant, Fixed, Open, plain_held, is_same, is_within, is_pair, held_of}
use Rattle.stp_exec.specs.Timed.{plain_timed}
use Rattle.stp_exec.specs.Times.{fits}
use Rattle.stp_exec.specs.Plans.{IsReduced, numbers_of, HasLowestTerms}

-- ---- brackets

abbrev pub AnswerFits : PlainDuration → Result PlainHeld Code → Type 0
AnswerFits d r = IfOk r (λ held. fits d held ≡ true)

fits_if : (d : PlainDuration) (b : Bool) (held : PlainHeld) (code : Code) → (b ≡ true → fits d held ≡ true) → AnswerFits d (if b then Ok held else Err code)
fits_if d true held code h = h refl
fits_if d false held code h = tt

same_self : (f : Fraction) → is_same f f ≡ true
unfolding order_of
same_self f = ap is_eq (sym (int_cmp_is (f.top *ℤ pos f.bottom) (f.top *ℤ pos f.bottom) Equal refl))

at_most_self : (f : Fraction) → is_at_most f f ≡ true
unfolding order_of
at_most_self f = ap is_le (sym (int_cmp_is (f.top *ℤ pos f.bottom) (f.top *ℤ pos f.bottom) Equal refl))

equal_is_at_most : (o : Ordering) → is_eq o ≡ true → is_le o ≡ true
equal_is_at_most Less h = refl
equal_is_at_most Equal h = refl
equal_is_at_most Greater h = h

low_is_within : (low high : Fraction) → is_same low high ≡ true → is_within low high low ≡ true
low_is_within low high h = both_true (is_at_most low low) (is_at_most low high) (at_most_self low) (equal_is_at_most (order_of low high) h)

pair_self : (low high : Fraction) → is_pair low high low high ≡ true
pair_self low high = both_true (is_same low low) (is_same high high) (same_self low) (same_self high)

pub held_fits : (d : PlainDuration) (bracket : PlainBracket) → AnswerFits d (held_of d bracket)
held_fits durations.Instant NoBracket = refl
held_fits durations.Instant (Exactly number) = fits_if durations.Instant (is_same number zero) Instant X07 (λ _. refl)
held_fits durations.Instant AnyNumber = tt
held_fits durations.Instant (Between one other) = tt
held_fits (durations.Controlled low high) NoBracket = tt
held_fits (durations.Controlled low high) (Exactly number) = fits_if (durations.Controlled low high) (is_within low high number) (Fixed number) X08 (λ h. h)
held_fits (durations.Controlled low high) AnyNumber = fits_if (durations.Controlled low high) (is_same low high) (Fixed low) X06 (low_is_within low high)
held_fits (durations.Controlled low high) (Between one other) =
    fits_if (durations.Controlled low high) (is_same low high && is_pair low high one other) (Fixed low) X06
    (λ h. low_is_within low high (left_true (is_same low high) (is_pair low high one other) h))
held_fits (durations.Uncertain low high) NoBracket = tt
held_fits (durations.Uncertain low high) (Exactly number) = tt
held_fits (durations.Uncertain low high) AnyNumber = pair_self low high
held_fits (durations.Uncertain low high) (Between one other) = fits_if (durations.Uncertain low high) (is_pair low high one other) (Open low high) X09 (λ _. pair_self low high)

-- ---- lowest terms

value_is_reduced : (f : Frac) → IsReduced (value_of f)
value_is_reduced f = record { bottom = omega (arith, f.low); coprime = value_is_lowest f }

held_is_lowest : (held : Held) → All IsReduced (numbers_of (plain_held held))
held_is_lowest helds.Instant = All-nil IsReduced
held_is_lowest (helds.Fixed duration) = All-cons IsReduced (value_of duration) [] (value_is_reduced duration) (All-nil IsReduced)
held_is_lowest (helds.Open low high) =
    All-cons IsReduced (value_of low) (value_of high ∷ []) (value_is_reduced low)
    (All-cons IsReduced (value_of high) [] (value_is_reduced high) (All-nil IsReduced))

pub times_are_lowest : (t : TimedStep) → HasLowestTerms (plain_timed t)
times_are_lowest t = All-cons IsReduced (value_of t.start) (numbers_of (plain_held t.held)) (value_is_reduced t.start) (held_is_lowest t.held)
