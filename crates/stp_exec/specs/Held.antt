-- How long a step lasts, by its action's duration and its bracket.
use Rattle.std.specs.Prelude.{Bool, true, ◌&&◌, if◌then◌else◌, Result, Ok, Err}
use Rattle.std.specs.Ordering.{is_eq}
use Rattle.stp_frac.specs.Fractions.{Fraction, value_of, order_of, zero, is_less, is_at_most}
use Rattle.stp_refusal.specs.declared.code.Code.{Code}
use Rattle.stp_refusal.specs.declared.code.Code.TheVariants.{X06, X07, X08, X09}
use Rattle.stp_task.specs.Durations as durations
use Rattle.stp_task.specs.Durations.{PlainDuration}
use Rattle.stp_plan.specs.Steps.{PlainBracket, NoBracket, Exactly, AnyNumber, Between}
use Rattle.stp_exec.specs.declared.held.Held.{Held}
use Rattle.stp_exec.specs.declared.held.Held.TheVariants as helds

-- no time, a time that the plan says, or one between two bounds, which the environment chooses
pub data PlainHeld : Type 0 where
  Instant : PlainHeld
  Fixed : (duration : Fraction) → PlainHeld
  Open : (low high : Fraction) → PlainHeld

abbrev pub plain_held : Held → PlainHeld
plain_held helds.Instant = Instant
plain_held (helds.Fixed duration) = Fixed (value_of duration)
plain_held (helds.Open low high) = Open (value_of low) (value_of high)

abbrev pub is_same : Fraction → Fraction → Bool
is_same f g = is_eq (order_of f g)

abbrev pub is_within : Fraction → Fraction → Fraction → Bool
is_within low high number = is_at_most low number && is_at_most number high

abbrev pub is_pair : Fraction → Fraction → Fraction → Fraction → Bool
is_pair low high one other = is_same one low && is_same other high

-- an action without a duration: no bracket, or the number 0
abbrev pub held_at_once : PlainBracket → Result PlainHeld Code
held_at_once NoBracket = Ok Instant
held_at_once (Exactly number) = if is_same number zero then Ok Instant else Err X07
held_at_once AnyNumber = Err X07
held_at_once (Between one other) = Err X07

-- a duration of the plan's choice: a number within the bounds, and where these are equal also a star, or both of them
abbrev pub held_as_chosen : Fraction → Fraction → PlainBracket → Result PlainHeld Code
held_as_chosen low high NoBracket = Err X06
held_as_chosen low high (Exactly number) = if is_within low high number then Ok (Fixed number) else Err X08
held_as_chosen low high AnyNumber = if is_same low high then Ok (Fixed low) else Err X06
held_as_chosen low high (Between one other) =
    if is_same low high && is_pair low high one other then Ok (Fixed low) else Err X06

-- a duration of the environment's choice: a star, or both bounds
abbrev pub held_as_comes : Fraction → Fraction → PlainBracket → Result PlainHeld Code
held_as_comes low high NoBracket = Err X06
held_as_comes low high (Exactly number) = Err X07
held_as_comes low high AnyNumber = Ok (Open low high)
held_as_comes low high (Between one other) = if is_pair low high one other then Ok (Open low high) else Err X09

-- how long a step lasts, or why its bracket is refused
abbrev pub held_of : PlainDuration → PlainBracket → Result PlainHeld Code
held_of durations.Instant bracket = held_at_once bracket
held_of (durations.Controlled low high) bracket = held_as_chosen low high bracket
held_of (durations.Uncertain low high) bracket = held_as_comes low high bracket

-- the same of what a call answers
abbrev pub plain_answer : Result Held Code → Result PlainHeld Code
plain_answer (Ok held) = Ok (plain_held held)
plain_answer (Err code) = Err code

-- whether a time is above 0, and a low bound at most the high one
abbrev pub is_lawful_held : PlainHeld → Bool
is_lawful_held Instant = true
is_lawful_held (Fixed duration) = is_less zero duration
is_lawful_held (Open low high) = is_less zero low && is_at_most low high
