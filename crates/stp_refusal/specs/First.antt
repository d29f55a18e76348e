-- The first of several offences: the least place, and there the least code.
use Rattle.std.specs.Prelude.{ℕ, Bool, ◌==◌, ◌&&◌, ◌||◌, nat_lt, nat_le, if◌then◌else◌, List, [], ◌∷◌, Option, Some, None}
use Rattle.stp_refusal.specs.declared.offence.Offence.{Offence}
use Rattle.stp_refusal.specs.Codes.{rank_of}

-- whether the one is chosen where there are both
abbrev pub is_before : Offence → Offence → Bool
is_before one other = nat_lt one.at other.at || ((one.at == other.at) && nat_le (rank_of one.code) (rank_of other.code))

-- of what was found so far and one more
abbrev pub earlier : Option Offence → Offence → Option Offence
earlier None o = Some o
earlier (Some found) o = if is_before found o then Some found else Some o

-- of what was found so far and more
abbrev pub first_from : Option Offence → List Offence → Option Offence
first_from found [] = found
first_from found (o ∷ os) = first_from (earlier found o) os

-- the one that is chosen of several
abbrev pub first_of : List Offence → Option Offence
first_of os = first_from None os
