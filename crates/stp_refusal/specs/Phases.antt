-- Phases of reading, and the offence that is chosen of all.
use Rattle.std.specs.Prelude.{List, [], ◌∷◌, Option, Some, None, Result, Ok, Err}
use Rattle.stp_refusal.specs.declared.offence.Offence.{Offence}
use Rattle.stp_refusal.specs.First.{first_of}
use Rattle.stp_refusal.specs.declared.phase.ReadFault.{ReadFault}
use Rattle.stp_refusal.specs.declared.phase.ReadFault.TheVariants.{Refused}

-- the refusal of an offence
abbrev pub refusal_of : Offence → ReadFault
refusal_of o = Refused o.code o.at

-- the end of a phase: reading goes on where nothing was found
abbrev pub ended : Option Offence → Result (Unit {0}) ReadFault
ended None = Ok tt
ended (Some o) = Err (refusal_of o)

abbrev pub or_else : Option Offence → Option Offence → Option Offence
or_else (Some o) other = Some o
or_else None other = other

-- Of the earliest phase with an offence, the first.
abbrev pub chosen : List (List Offence) → Option Offence
chosen [] = None
chosen (os ∷ phases) = or_else (first_of os) (chosen phases)

-- a value, or the refusal of the offence that was found
abbrev pub unless_refused : {A : Type 0} → A → Option Offence → Result A ReadFault
unless_refused value None = Ok value
unless_refused value (Some o) = Err (refusal_of o)
