-- When events of the environment come.
use Rattle.std.specs.Prelude.{◌≡◌, pos, Bool, true, ◌&&◌, Option, Some, None, Result, Ok, Err}
use Rattle.stp_base.specs.declared.limits.TheConstants.{MAX_MOMENT}
use Rattle.stp_base.specs.Options.{◌>>=◌}
use Rattle.stp_text.specs.Tree.{Tree}
use Rattle.stp_text.specs.Items.{word_of, when}
use Rattle.stp_frac.specs.Fractions.{Fraction, zero, is_at_most}
use Rattle.stp_frac.specs.Reading.{number_of}
use Rattle.stp_frac.specs.declared.fault.NumberFault.{NumberFault}

abbrev pub if_read : Result Fraction NumberFault → Option Fraction
if_read (Ok f) = Some f
if_read (Err fault) = None

-- the number that a word spells
abbrev pub number_in : Tree → Option Fraction
number_in tree = do
  text ← word_of tree
  if_read (number_of text)

-- the greatest time of an event
abbrev pub latest : Fraction
latest = record { top = pos MAX_MOMENT; bottom = 1 }

-- whether an event may come at this time
abbrev pub is_time : Fraction → Bool
is_time time = is_at_most zero time && is_at_most time latest

-- the time that a word spells
abbrev pub time_in : Tree → Option Fraction
time_in tree = do
  number ← number_in tree
  when (is_time number) number

-- two times in order
pub record IsWindow (low high : Fraction) : Type 0 where
  pub early : is_time low ≡ true
  pub late : is_time high ≡ true
  pub up : is_at_most low high ≡ true

-- the least and the greatest time that two words spell
abbrev pub window_in : Tree → Tree → Option (Fraction × Fraction)
window_in one other = do
  low ← time_in one
  high ← time_in other
  when (is_at_most low high) (low, high)
