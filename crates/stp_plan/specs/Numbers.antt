-- Numbers as plans spell them.
use Rattle.std.specs.Prelude.{ℕ, Bool, false, ◌==◌, if◌then◌else◌, List, [], ◌∷◌, Option, Some, None, Result, Ok, Err}
use Rattle.stp_frac.specs.Fractions.{Fraction}
use Rattle.stp_frac.specs.Reading.{number_of}
use Rattle.stp_frac.specs.declared.fault.NumberFault.{NumberFault}

-- whether a word begins with 45, a minus
abbrev pub has_minus : List ℕ → Bool
has_minus [] = false
has_minus (b ∷ bs) = b == 45

-- the number, if there is one
abbrev pub if_number : Result Fraction NumberFault → Option Fraction
if_number (Ok f) = Some f
if_number (Err fault) = None

-- the number that a word without a minus spells
abbrev pub plain_number : List ℕ → Option Fraction
plain_number word = if has_minus word then None else if_number (number_of word)
