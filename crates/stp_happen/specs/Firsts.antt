-- The first of some faults, one at a time, and what a moment changes.
use Rattle.std.specs.Prelude.{ℕ, Bool, true, false, if◌then◌else◌, List, Option, Some, None}
use Rattle.std.specs.List.{fold, list_any}
use Rattle.stp_cond.specs.Atoms.{has}
use Rattle.stp_happen.specs.declared.fault.Fault.{Fault}
use Rattle.stp_happen.specs.Faults.{is_before}
use Rattle.stp_happen.specs.Plain.{PlainEntry}

-- the first of two, if any
abbrev pub sooner_of : Option Fault → Option Fault → Option Fault
sooner_of None g = g
sooner_of (Some f) None = Some f
sooner_of (Some f) (Some g) = if is_before g f then Some g else Some f

-- the first of one that is at hand, if any, and of those of a list
abbrev pub first_from : Option Fault → List Fault → Option Fault
first_from best faults = fold (λ b f. sooner_of b (Some f)) best faults

abbrev pub first_of : List Fault → Option Fault
first_of faults = first_from None faults

-- all deletes of some entries, and then all their adds
abbrev pub changed : List PlainEntry → (ℕ → Bool) → ℕ → Bool
changed moment state atom = if list_any (λ e. has e.event.adds atom) moment then true else (if list_any (λ e. has e.event.dels atom) moment then false else state atom)
