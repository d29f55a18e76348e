-- How long an action lasts.
use Rattle.std.specs.Prelude.{Bool, true, false, ◌&&◌}
use Rattle.stp_frac.specs.Fractions.{Fraction, value_of, is_less, is_at_most, zero}
use Rattle.stp_task.specs.declared.duration.Duration.{Duration}
use Rattle.stp_task.specs.declared.duration.Duration.TheVariants as durations

-- at once, or for a time from a low to a high bound, which the plan or the environment chooses
pub data PlainDuration : Type 0 where
  Instant : PlainDuration
  Controlled : (low high : Fraction) → PlainDuration
  Uncertain : (low high : Fraction) → PlainDuration

abbrev pub plain_duration : Duration → PlainDuration
plain_duration durations.Instant = Instant
plain_duration (durations.Controlled low high) = Controlled (value_of low) (value_of high)
plain_duration (durations.Uncertain low high) = Uncertain (value_of low) (value_of high)

-- whether it takes time
abbrev pub lasts : PlainDuration → Bool
lasts Instant = false
lasts (Controlled low high) = true
lasts (Uncertain low high) = true

-- whether the low bound is above 0 and at most the high one, and below it where the duration is uncertain
abbrev pub is_lawful : PlainDuration → Bool
is_lawful Instant = true
is_lawful (Controlled low high) = is_less zero low && is_at_most low high
is_lawful (Uncertain low high) = is_less zero low && is_less low high
