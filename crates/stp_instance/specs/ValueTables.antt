-- A table of values: the places at which functions have values, each once, and the values in the same order.
use Rattle.std.specs.Prelude.{◌≡◌, ℕ, List, length, Option, slice_get}
use Rattle.std.specs.Option.{option_and_then}
use Rattle.stp_frac.specs.Fractions.{Fraction}
use Rattle.stp_schema.specs.Views.{PlainGiven}
use Rattle.stp_tables.specs.Atoms.{Atom, number_of}
use Rattle.stp_instance.specs.Values.{given_in}

abbrev pub place : ℕ → List ℕ → Atom
place function args = record { predicate = function; args = args }

-- the value at a place, if the table has the place
abbrev pub found_at : List Atom → List Fraction → Atom → Option Fraction
found_at places amounts atom = option_and_then (slice_get amounts) (number_of places atom)

-- a table in which each function has its given values
pub record IsTable (given : List PlainGiven) (places : List Atom) (amounts : List Fraction) : Type 0 where
  pub even : length places ≡ length amounts
  pub same : (function : ℕ) (args : List ℕ) → found_at places amounts (place function args) ≡ given_in given function args
