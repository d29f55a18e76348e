-- A step that is held by its bracket is held a lawful time.
use Rattle.std.proofs.Common.{◌≡◌, Bool, true, false, ◌&&◌, if◌then◌else◌, Result, Ok, Err, IfOk, refl}
use Rattle.stp_frac.specs.declared.frac.Frac.{Frac}
use Rattle.stp_frac.specs.Fractions.{value_of, zero, is_less, is_at_most}
use Rattle.stp_frac.proofs.Divisors.{left_true}
use Rattle.stp_refusal.specs.declared.code.Code.{Code}
use Rattle.stp_refusal.specs.declared.code.Code.TheVariants.{X06, X08}
use Rattle.stp_plan.specs.declared.steps.Bracket.{Bracket}
use Rattle.stp_plan.specs.declared.steps.Bracket.TheVariants.{Absent, Number, Star, Pair}
use Rattle.stp_plan.specs.Views.{plain_bracket}
use Rattle.stp_exec.specs.declared.held.Held.{Held}
use Rattle.stp_exec.specs.Held.{PlainHeld, Fixed, plain_held, plain_answer, is_same, is_within, is_pair, held_as_chosen, is_lawful_held}
use Rattle.stp_exec.proofs.Bounds.{less_on}

abbrev pub IsLawfulAnswer : Result PlainHeld Code → Type 0
IsLawfulAnswer r = IfOk r (λ held. is_lawful_held held ≡ true)

pub lawful_answer : (r : Result Held Code) → IsLawfulAnswer (plain_answer r) → IfOk r (λ held. is_lawful_held (plain_held held) ≡ true)
lawful_answer (Ok held) h = h
lawful_answer (Err code) h = h

held_if : (b : Bool) (held : PlainHeld) (code : Code) → (b ≡ true → is_lawful_held held ≡ true) → IsLawfulAnswer (if b then Ok held else Err code)
held_if true held code h = h refl
held_if false held code h = tt

pub chosen_lawful : (low high : Frac) (bracket : Bracket) → (is_less zero (value_of low) && is_at_most (value_of low) (value_of high)) ≡ true → IsLawfulAnswer (held_as_chosen (value_of low) (value_of high) (plain_bracket bracket))
chosen_lawful low high Absent h = tt
chosen_lawful low high (Number number) h =
    held_if (is_within (value_of low) (value_of high) (value_of number)) (Fixed (value_of number)) X08
    (λ w. less_on (value_of low) (value_of number) low.low number.low (left_true (is_less zero (value_of low)) (is_at_most (value_of low) (value_of high)) h) (left_true (is_at_most (value_of low) (value_of number)) (is_at_most (value_of number) (value_of high)) w))
chosen_lawful low high Star h =
    held_if (is_same (value_of low) (value_of high)) (Fixed (value_of low)) X06
    (λ w. left_true (is_less zero (value_of low)) (is_at_most (value_of low) (value_of high)) h)
chosen_lawful low high (Pair one other) h =
    held_if (is_same (value_of low) (value_of high) && is_pair (value_of low) (value_of high) (value_of one) (value_of other)) (Fixed (value_of low)) X06
    (λ w. left_true (is_less zero (value_of low)) (is_at_most (value_of low) (value_of high)) h)
